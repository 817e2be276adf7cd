-- `scan_events`: the walk along the transitions of an event keeps that they agree with its first, the loop over the events that those before are level
-- and their moves in the rows. Left by the break, the event is the first that is not; left at its end, there is none.
use Rattle.std.proofs.Common.{◌≡◌, ◌-◌, None}
use Rattle.regions.proofs.in_turn.Scan.{Walked, Sofar}
use Rattle.regions.proofs.in_turn.scan_events.Given as goal

abbrev pub invariant-loop-k : goal.invariant-loop-k
invariant-loop-k l = Walked l.plan.source l.plan.target l.plan.place l.chains.first.now l.chains.next.now l.plan.counts.transitions l.m l.e l.one l.k × (l.uneven ≡ None)

abbrev pub decreases-loop-k : goal.decreases-loop-k
decreases-loop-k l = l.plan.counts.transitions - l.k

abbrev pub invariant-events : goal.invariant-events
invariant-events l =
    Sofar l.plan.source l.plan.target l.plan.place l.chains.first.now l.chains.next.now l.plan.counts.transitions l.m l.initial.moves.pre l.initial.moves.post l.moves.pre l.moves.post l.e
    × (l.uneven ≡ None)
