-- `check_in_turn` meets its contract, whatever the row of events, the names and the sizes are. The laws are in `Checking`.
use Rattle.std.proofs.Common.{ℕ, List, None, refl, arith}
use Rattle.rows.specs.declared.Tables.{Tables}
use Rattle.rows.specs.Tables.{tables_in}
use Rattle.rows.specs.Told.{system_of}
use Rattle.rows.specs.Bounded.{Bounded}
use Rattle.regions.specs.Indexed.{Indexed}
use Rattle.regions.proofs.chains.Links.{chained}
use Rattle.regions.proofs.in_turn.Marks.{uncovered}
use Rattle.regions.proofs.in_turn.Checking.{check_end, duplicate_stop, Sought, uncovered_stop, region_stop, check_more}
use Rattle.regions.proofs.in_turn.check_in_turn.Goals.{In_default, Start}
use Rattle.regions.proofs.in_turn.check_in_turn.Goals as goal

-- the tables, with a row of events, names and sizes
abbrev tables : Start → List ℕ → List ℕ → List ℕ → List ℕ → Tables
tables c event ats lens sizes =
    tables_in c.args.plan.now.counts ats lens c.args.plan.now.source event c.args.plan.now.target sizes c.args.plan.now.duplicate c.args.plan.now.place

abbrev Indexes : Start → List ℕ → Type 0
Indexes c event = Indexed event c.args.plan.now.counts.transitions c.args.chains.first.now c.args.chains.next.now

pub returns-then-state-ne-NO_STATE : goal.returns-then-state-ne-NO_STATE
returns-then-state-ne-NO_STATE c = λ event i ats lens sizes b. duplicate_stop (c.loop-machine.invariant.1 event i ats lens sizes b) c.loop-machine-test.true c.if-state-ne-NO_STATE.true

pub returns-in-Some : goal.returns-in-Some
returns-in-Some c = λ event i ats lens sizes b. uncovered_stop (record {
  before = c.loop-machine.invariant.1 event i ats lens sizes b;
  here = c.loop-machine-test.true;
  bounded = b;
  single = c.if-state-ne-NO_STATE.false;
  search = uncovered _ _ _ (omega arith) _ c.in-Some.ensures;
})

pub scan_events-requires-clause-chained : goal.scan_events-requires-clause-chained
scan_events-requires-clause-chained c =
    let k = c.requires.checkable in
    (chained _ k.bounded k.used _ _ c.requires.chains, c.loop-machine.invariant.0)

sought : (c : In_default) (event : List ℕ) → Indexes (goal.at.In_default c).Start event → (ats lens sizes : List ℕ) → Bounded (tables (goal.at.In_default c).Start event ats lens sizes)
    → Sought (tables (goal.at.In_default c).Start event ats lens sizes) c.loop-machine.machine None c.loop-machine.moves.pre c.loop-machine.moves.post
sought c event i ats lens sizes b =
    record {
      before = c.loop-machine.invariant.1 event i ats lens sizes b;
      here = c.loop-machine-test.true;
      bounded = b;
      single = c.if-state-ne-NO_STATE.false;
      search = uncovered _ _ _ (omega arith) _ c.in_default.ensures;
    }

pub returns-in-Some-scan_events : goal.returns-in-Some-scan_events
unfolding system_of
returns-in-Some-scan_events c = λ event i ats lens sizes b. region_stop (record {
  sought = sought (goal.at.returns-in-Some-scan_events c).In_default event i ats lens sizes b;
  scan = λ m s. c.in-Some-scan_events.ensures.scanned_along.1 event _ m i s refl;
  kept = c.scan_events.ensures.earlier_kept;
}) c.in-Some-scan_events.ensures.scanned_along.0

pub loop-machine-preserved : goal.loop-machine-preserved
unfolding system_of
loop-machine-preserved c = (
  c.scan_events.ensures.earlier_kept.rows,
  λ event i ats lens sizes b. check_more (record {
    sought = sought (goal.at.loop-machine-preserved c).In_default event i ats lens sizes b;
    scan = λ m s. c.in_default-scan_events.ensures.scanned_along event _ m i s refl;
    kept = c.scan_events.ensures.earlier_kept;
  }) (omega arith),
)

pub returns : goal.returns
returns c = λ event i ats lens sizes b. check_end (c.loop-machine.invariant.1 event i ats lens sizes b) c.loop-machine-test.false
