-- `scan_events`: the walk along the transitions of an event keeps that they agree with its first, the loop over the events that those before are level
-- and their moves in the rows. Left by the break, the event is the first that is not; left at its end, there is none.
use Rattle.std.proofs.Common.{◌≡◌, arith}
use Rattle.rows.specs.Told.{entry}
use Rattle.regions.specs.Crossings.{crossing_at}
use Rattle.regions.proofs.chains.Walks.{walk_start}
use Rattle.regions.proofs.in_turn.Scan.{walked_next, sofar_next, scanned_all, scanned_uneven}
use Rattle.regions.proofs.in_turn.scan_events.Goals.{After-crossing_at-one}
use Rattle.regions.proofs.in_turn.scan_events.Goals as goal

-- the crossing that the others are compared with is that of the event's first transition
first-crossing : (c : After-crossing_at-one)
    → c.crossing_at-one.result ≡ crossing_at c.args.plan.now.source c.args.plan.now.target c.args.plan.now.place c.args.m (entry c.args.chains.first.now c.events.e)
first-crossing c = rw c.begin-k.ensures at c.crossing_at-one.ensures

pub loop-k-init : goal.loop-k-init
loop-k-init c = (walk_start _ (omega arith) c.begin-k.ensures, c.events.invariant.1)

pub loop-k-preserved : goal.loop-k-preserved
loop-k-preserved c = (walked_next _ _ _ _ _ _ _ _ c.loop-k-test.true c.after-k.ensures c.crossing_at.ensures c.agrees.ensures c.if-not-agrees.false c.loop-k.invariant.0, c.loop-k.invariant.1)

pub events-preserved : goal.events-preserved
events-preserved c = (sofar_next _ _ _ (first-crossing (goal.at.events-preserved c).After-crossing_at-one) c.pre_of.ensures (omega arith) (omega arith) c.loop-k-test.false c.loop-k.invariant.0 c.events.invariant.0, c.loop-k.invariant.1)

pub returns-after-events-clause-scanned_along : goal.returns-after-events-clause-scanned_along
returns-after-events-clause-scanned_along c =
    rw c.events.invariant.1 (λ event ts mach i s q. scanned_all (omega arith) c.requires.chained.0 c.events.invariant.0 (omega arith) event ts mach i s q c.events-test.false)

pub returns-then-not-agrees-clause-scanned_along :
    goal.returns-then-not-agrees-clause-scanned_along
returns-then-not-agrees-clause-scanned_along c =
    (omega arith, λ event ts mach i s q. scanned_uneven (omega arith) c.requires.chained.0 c.events.invariant.0 (omega arith) event ts mach i s q _ _ _ _ c.events-test.true c.loop-k-test.true (first-crossing (goal.at.returns-then-not-agrees-clause-scanned_along c).After-crossing_at-one) c.crossing_at.ensures c.agrees.ensures c.if-not-agrees.true c.loop-k.invariant.0)
