-- `first_uneven`: the walk along the transitions of an event keeps that they lead like its first, the loop over the events that those before are even. Left by the
-- break, the event is the first that is not; left at its end, there is none.
use Rattle.std.proofs.Common.{arith}
use Rattle.regions.proofs.lanes.Uneven.{compare_start, compare_next, even_more}
use Rattle.regions.proofs.lanes.first_uneven.Goals as goal

pub loop-k-init : goal.loop-k-init
loop-k-init c =
    (compare_start _ _ _ _ (omega arith) c.begin-f.ensures c.from-from.ensures c.from-to.ensures (omega (arith, c.begin-f.ensures, c.requires.comparable.chain.begins c.events.e c.events-test.true)) c.after-k.ensures, c.events.invariant.1)

pub loop-k-preserved : goal.loop-k-preserved
loop-k-preserved c =
    (compare_next c.loop-k.invariant.0 _ _ _ _ c.loop-k-test.true c.from-from2.ensures c.from-to2.ensures c.lanes_agree.ensures c.if-not-lanes_agree.false c.after-k-in-loop-k.ensures, c.loop-k.invariant.1)

pub events-preserved : goal.events-preserved
events-preserved c =
    (even_more c.events.invariant.0 c.loop-k.invariant.0 c.events-test.true c.loop-k-test.false, c.loop-k.invariant.1)
