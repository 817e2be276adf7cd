-- `merging::numbers::narrow_common` meets its contract.
use native.Mathlib.Omega.{arith}
use Rattle.merging.proofs.Uniting.{narrow_skip, narrow_more}
use Rattle.merging.proofs.numbers.narrow_common.Goals as goal
use Rattle.merging.proofs.numbers.narrow_common.Goals.{then-q-lt-MAX_PLACES, else-q-lt-MAX_PLACES}

pub loop-e-preserved : goal.loop-e-preserved
loop-e-preserved c =
    let q = c.from-q.ensures in
    elim c.if-q-lt-MAX_PLACES.branch [
      | then-q-lt-MAX_PLACES w ↦ narrow_more _ _ _ c.loop-e.invariant (omega arith) q w.if-q-lt-MAX_PLACES.true w.load-common.ensures w.load.ensures w.meet.ensures w.store.ensures w.earlier-is
      | else-q-lt-MAX_PLACES w ↦ narrow_skip c.loop-e.invariant (omega arith) q w.if-q-lt-MAX_PLACES.false w.earlier-is
    ]
