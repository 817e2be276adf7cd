-- `reader::read_machines` meets its contract. The invariant: the machine lines so far are read into the rows, and the rest comes to the same.
use Rattle.std.proofs.Common.{◌≡◌, ◌-◌, length}
use Rattle.reader.specs.Sections.{rows_of_machines, with_machine_rows}
use Rattle.reader.proofs.machine_lines.MachineSection.{SoFar}
use Rattle.reader.proofs.machine_lines.read_machines.Given as goal

abbrev pub invariant-loop-i : goal.invariant-loop-i
invariant-loop-i l = record {
  so_far : SoFar l.s l.at l.n l.line (rows_of_machines l.initial.plan) l.k l.i (rows_of_machines l.plan);
  others : l.plan ≡ with_machine_rows l.initial.plan (rows_of_machines l.plan);
}

abbrev pub decreases-loop-i : goal.decreases-loop-i
decreases-loop-i l = length l.s - l.i
