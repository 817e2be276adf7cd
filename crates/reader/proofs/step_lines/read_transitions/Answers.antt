-- `reader::read_transitions` meets its contract. The invariant: the step lines so far are read into the rows, and the rest comes to the same.
use Rattle.std.proofs.Common.{refl, arith}
use Rattle.std.proofs.lemmas.Result.{err_from_is_err_and}
use Rattle.reader.proofs.Rest.{step_moves}
use Rattle.reader.proofs.step_lines.StepSection.{steps_start, section_end, section_stop, section_more}
use Rattle.reader.proofs.step_lines.read_transitions.Goals as goal

pub loop-step-init : goal.loop-step-init
loop-step-init c =
    let p = c.requires in
    record { so_far = record { most = omega arith; few = p.1; states = p.0; so_far = λ o es x d r. steps_start r }; others = refl }

pub returns-in_err-step-clause-reads_steps : goal.returns-in_err-step-clause-reads_steps
returns-in_err-step-clause-reads_steps c =
    let p = err_from_is_err_and c.from_residual.result c.from_residual.ensures.1 in
    rw (p.1, p.2) (section_stop c.loop-step.invariant.so_far c.in_err-step.ensures)

pub returns-clause-reads_steps : goal.returns-clause-reads_steps
returns-clause-reads_steps c = section_end c.loop-step.invariant.so_far (rw c.in_default.is at c.in_ok-step.ensures)

pub loop-step-smaller : goal.loop-step-smaller
loop-step-smaller c =
    let f = rw c.in-Some.is at c.in_ok-step.ensures in
    omega (arith, step_moves _ _ f.line)

pub loop-step-preserved : goal.loop-step-preserved
loop-step-preserved c =
    let f = rw c.in-Some.is at c.in_ok-step.ensures in
    record { so_far = section_more c.loop-step.invariant.so_far f refl refl refl; others = rw c.loop-step.invariant.others refl }
