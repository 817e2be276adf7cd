-- `printing::write_transition` meets its contract: seven words, one after another. The numbers are below 256, so each has three digits at most.
use Prim.Native.Nat.{◌+◌, ◌≤◌}
use native.Mathlib.Omega.{arith}
use lib.ListN.{length}
use Rattle.model.specs.Bytes.{numeral}
use Rattle.model.specs.Printed.{transition_line}
use Rattle.writers.proofs.Writing.{writes_append, writes_length}
use Rattle.writers.proofs.Refusals.{numeral_three}
use Rattle.printing.proofs.Showing.{writes_copy}
use Rattle.printing.proofs.write_transition.Goals.{After-from, After-from-2, After-from-3, After-write_bytes-c}
use Rattle.printing.proofs.write_transition.Goals as goal

source-most : (c : After-from) → length (numeral c.from.result) ≤ 3
source-most c = numeral_three c.from.result (omega (arith, c.from.ensures))

event-most : (c : After-from-2) → length (numeral c.from-2.result) ≤ 3
event-most c = numeral_three c.from-2.result (omega (arith, c.from-2.ensures))

target-most : (c : After-from-3) → length (numeral c.from-3.result) ≤ 3
target-most c = numeral_three c.from-3.result (omega (arith, c.from-3.ensures))

-- the room that is left after the source
room_left : (c : After-write_bytes-c) → c.write_bytes-c.result + 9 ≤ length c.write_bytes-c.new.out
room_left c =
    omega (arith, source-most (goal.at.After-write_bytes-c c).After-from, writes_length c.write_bytes-c.ensures)

pub returns : goal.returns
unfolding transition_line
returns c = record {
  writes = writes_append c.write_bytes-a.ensures
      (writes_append (writes_copy c.from.ensures c.write_numeral-b.ensures)
      (writes_append c.write_bytes-c.ensures
      (writes_append (writes_copy c.from-2.ensures c.write_numeral-d.ensures)
      (writes_append c.write_bytes-e.ensures
      (writes_append (writes_copy c.from-3.ensures c.write_numeral-f.ensures) c.write_bytes.ensures)))));
  upper_bound = omega (
    arith,
    c.write_bytes-a.ensures.after,
    c.write_numeral-b.ensures.after,
    c.write_bytes-c.ensures.after,
    c.write_numeral-d.ensures.after,
    c.write_bytes-e.ensures.after,
    c.write_numeral-f.ensures.after,
    c.write_bytes.ensures.after,
    source-most (goal.at.returns c).After-from,
    event-most (goal.at.returns c).After-from-2,
    target-most (goal.at.returns c).After-from-3,
  );
}
