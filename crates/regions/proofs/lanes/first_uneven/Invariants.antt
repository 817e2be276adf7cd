-- `first_uneven`: the walk along the transitions of an event keeps that they lead like its first, the loop over the events that those before are even. Left by the
-- break, the event is the first that is not; left at its end, there is none.
use Rattle.std.proofs.Common.{◌≡◌, ◌-◌, None}
use Rattle.regions.proofs.lanes.Uneven.{Comparing, Even}
use Rattle.regions.proofs.lanes.first_uneven.Given as goal

abbrev pub invariant-loop-k : goal.invariant-loop-k
invariant-loop-k l = Comparing l.plan.source l.plan.target l.chains.first.now l.chains.next.now l.columns l.plan.counts.transitions l.e l.from l.to l.k × (l.uneven ≡ None)

abbrev pub decreases-loop-k : goal.decreases-loop-k
decreases-loop-k l = l.plan.counts.transitions - l.k

abbrev pub invariant-events : goal.invariant-events
invariant-events l =
    Even l.plan.source l.plan.target l.chains.first.now l.chains.next.now l.columns l.plan.counts.events l.plan.counts.transitions l.e
    × (l.uneven ≡ None)
