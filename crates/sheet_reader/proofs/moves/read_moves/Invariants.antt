-- The loop keeps `Moving`.
use Prim.Native.Nat.{◌-◌}
use lib.ListN.{length}
use Rattle.sheet_reader.specs.Lent.{lent}
use Rattle.sheet_reader.proofs.Moving.{Moving}
use Rattle.sheet_reader.proofs.moves.read_moves.Given as goal

abbrev pub invariant-loop-next : goal.invariant-loop-next
invariant-loop-next l =
    Moving l.s l.at l.machine.number l.machine.places l.initial.names.count (lent l.initial.names l.initial.moves) l.i l.names.count (lent l.names l.moves)

abbrev pub decreases-loop-next : goal.decreases-loop-next
decreases-loop-next l = length l.s - l.i
