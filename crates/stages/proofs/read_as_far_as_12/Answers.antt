-- `stages::read_as_far_as_12` meets its contract: both answers are laws of `Stages` at what the calls have said.
use mathlib.Core.Path.{refl}
use Rattle.std.proofs.lemmas.Result.{err_from_is_err_and}
use Rattle.stages.proofs.Stages.{past_text_10, refused_to_10, counts_bounded, judged_12}
use Rattle.stages.proofs.read_as_far_as_12.Goals as goal

pub returns-in_err-read_as_far_as_10 : goal.returns-in_err-read_as_far_as_10
returns-in_err-read_as_far_as_10 c =
    let p = err_from_is_err_and c.from_residual.result c.from_residual.ensures.1 in
    rw (p.1, p.2) (refused_to_10 c.in_err-read_as_far_as_10.ensures refl)

pub check_cover-requires : goal.check_cover-requires
check_cover-requires c = counts_bounded (past_text_10 c.read_as_far_as_10.ensures c.in_ok-read_as_far_as_10.was)

pub returns : goal.returns
returns c = judged_12 (past_text_10 c.read_as_far_as_10.ensures c.in_ok-read_as_far_as_10.was) _ c.check_cover.ensures
