-- `reader::read_transitions` meets its contract. The invariant: the step lines so far are read into the rows, and the rest comes to the same.
use Rattle.std.proofs.Common.{◌≡◌, ◌-◌, length}
use Rattle.reader.specs.Sections.{rows_of_steps, with_step_rows}
use Rattle.reader.proofs.step_lines.StepSection.{SoFar}
use Rattle.reader.proofs.step_lines.read_transitions.Given as goal

abbrev pub invariant-loop-step : goal.invariant-loop-step
invariant-loop-step l = record {
  so_far : SoFar l.s l.at l.n l.names.count l.names.«len» l.names.high l.names.low (rows_of_steps l.initial.plan) l.count l.next (rows_of_steps l.plan);
  others : l.plan ≡ with_step_rows l.initial.plan (rows_of_steps l.plan);
}

abbrev pub decreases-loop-step : goal.decreases-loop-step
decreases-loop-step l = length l.s - l.next
