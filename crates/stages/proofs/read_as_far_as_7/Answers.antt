-- `stages::read_as_far_as_7` meets its contract: both answers are laws of `Stages` at what the calls have said.
use mathlib.Core.Path.{refl}
use native.Mathlib.Omega.{arith}
use Rattle.std.proofs.lemmas.Result.{err_from_is_err_and}
use Rattle.stages.proofs.Order.{no_excitations, system_bounded}
use Rattle.stages.proofs.Stages.{rows_held, rows_bounded, refused_to_3, judged_7}
use Rattle.stages.proofs.read_as_far_as_7.Goals as goal

pub returns-in_err-read_rows : goal.returns-in_err-read_rows
returns-in_err-read_rows c =
    let p = err_from_is_err_and c.from_residual.result c.from_residual.ensures.1 in
    rw (p.1, p.2) (refused_to_3 c.in_err-read_rows.ensures.verdict_value refl)

pub check_transition_system-requires : goal.check_transition_system-requires
check_transition_system-requires c =
    let held = rows_held c.read_rows.ensures.verdict_value c.in_ok-read_rows.was c.read_rows.ensures.reads_rows in
    let (source, event, target) = c.transitions.ensures in
    let most = held.bounds.transitions in
    let lengths = held.sized.checked in
    record {
      bounded = rw (source, event, target) (system_bounded (rows_bounded held.bounds), no_excitations);
      transitions_in_bounds =
          rw (source, event, target) (omega (arith, most, lengths.crossed.sources), omega (arith, most, lengths.events), omega (arith, most, lengths.crossed.targets));
    }

pub returns : goal.returns
returns c =
    judged_7 (rows_held c.read_rows.ensures.verdict_value c.in_ok-read_rows.was c.read_rows.ensures.reads_rows) _
    (rw (c.transitions.ensures.0, c.transitions.ensures.1, c.transitions.ensures.2) at c.check_transition_system.ensures.result_value)
