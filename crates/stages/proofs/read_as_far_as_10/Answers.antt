-- `stages::read_as_far_as_10` meets its contract: both answers are laws of `Stages` at what the calls have said.
use mathlib.Core.Path.{refl}
use Rattle.std.proofs.lemmas.Result.{err_from_is_err_and}
use Rattle.stages.proofs.Stages.{rows_held, rows_bounded, refused_to_3_10, judged_10}
use Rattle.stages.proofs.read_as_far_as_10.Goals as goal

pub returns-in_err-read_rows : goal.returns-in_err-read_rows
returns-in_err-read_rows c =
    let p = err_from_is_err_and c.from_residual.result c.from_residual.ensures.1 in
    rw (p.1, p.2) (refused_to_3_10 c.in_err-read_rows.ensures.verdict_value refl)

pub check_as_far_as_10-requires : goal.check_as_far_as_10-requires
check_as_far_as_10-requires c =
    let held = rows_held c.read_rows.ensures.verdict_value c.in_ok-read_rows.was c.read_rows.ensures.reads_rows in
    record { bounded = rows_bounded held.bounds; checked_sizes = (held.sized.checked, c.requires.fresh) }

pub returns : goal.returns
returns c =
    let held = rows_held c.read_rows.ensures.verdict_value c.in_ok-read_rows.was c.read_rows.ensures.reads_rows in
    judged_10 held _ (c.check_as_far_as_10.ensures _ _ _ held.bounds)
