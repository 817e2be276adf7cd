-- `pass_at_once` meets its contract. The laws are in `AtOnce`.
use Rattle.regions.specs.Indexed.{Chained}
use Rattle.regions.proofs.chains.Links.{chained}
use Rattle.regions.proofs.at_once.AtOnce.{comparable, all_pass}
use Rattle.regions.proofs.at_once.pass_at_once.Goals.{Start}
use Rattle.regions.proofs.at_once.pass_at_once.Goals as goal

chain : (c : Start) → Chained c.args.plan.now.counts.transitions c.args.plan.now.counts.events c.args.chains.first.now c.args.chains.next.now
chain c = let k = c.requires.checkable in chained _ k.bounded k.used _ _ c.requires.chains

pub agree_at_once-requires-clause-comparable : goal.agree_at_once-requires-clause-comparable
agree_at_once-requires-clause-comparable c =
    let k = c.requires.checkable in
    comparable c.args.plan.now.counts k.bounded (chain (goal.at.agree_at_once-requires-clause-comparable c).Start) k.lengths

pub returns-then-none_twice : goal.returns-then-none_twice
returns-then-none_twice c =
    let agrees = c.agree_at_once.ensures in
    record {
      rows = agrees.rows;
      passed = λ q event i ats lens sizes b. all_pass c.args.plan.now.counts ats lens sizes b (chain (goal.at.returns-then-none_twice c).Start) i (c.none_twice.ensures c.if-none_twice.true)
          (agrees.alike q)
          (agrees.moves q);
    }
