-- `sheet::write_moves` meets its contract: the moves of the events passed are written. The laws are in `Moving`.
use native.Mathlib.Omega.{arith}
use Rattle.rows.proofs.Names.{name_inside}
use Rattle.sheet.proofs.Moving.{moved_none, moved_skip, moved_add, moved_room}
use Rattle.sheet.proofs.write_moves.Goals as goal
use Rattle.sheet.proofs.write_moves.Goals.{then-from-lt-MAX_PLACES, else-from-lt-MAX_PLACES}

pub loop-e-init : goal.loop-e-init
loop-e-init c = moved_none

pub write_move-i-requires : goal.write_move-i-requires
write_move-i-requires c =
    let inv = c.loop-e.invariant in
    let l = c.loop-e-test.true in
    record { len_bound = (c.requires.m_bound.1.names _ l, name_inside _ _ _ c.requires.inside _ l, omega (arith, inv.written.same_length, c.requires.events_bound.1)); post_bound = moved_room inv l (omega arith) c.requires.events_bound.0 }

pub loop-e-preserved : goal.loop-e-preserved
loop-e-preserved c =
    let inv = c.loop-e.invariant in
    let l = c.loop-e-test.true in
    elim c.if-from-lt-MAX_PLACES.branch [
      | then-from-lt-MAX_PLACES w ↦ rw (w.out-is, w.i-is) (moved_add inv l (omega (arith, w.if-from-lt-MAX_PLACES.true)) w.write_move-i.ensures)
      | else-from-lt-MAX_PLACES w ↦ rw (w.out-is, w.i-is) (moved_skip inv l (omega (arith, w.if-from-lt-MAX_PLACES.false)))
    ]
