-- `Machines::is_redundant` meets its contract: every event is covered, or one is not. The law is in `Covered`.
use native.Mathlib.Omega.{arith}
use mathlib.Core.Path.{◌≡◌, refl}
use mathlib.Core.Bool.{true, false}
use borrow.Author.Rules.{rules}
use borrow.Author.Tests.{lt-ltb}
use Rattle.std.proofs.lemmas.Iterator.{cases_from_all, YieldsList-from_range}
use Rattle.irredundant.specs.Kept.{covered_without}
use Rattle.irredundant.proofs.Covered.{all_covered}
use Rattle.irredundant.proofs.Machines.is_redundant.Goals as goal

pub returns-then-others-gt0 : goal.returns-then-others-gt0
returns-then-others-gt0 c =
    rw (lt-ltb 0 _ c.if-others-gt0.true)
    (all_covered (covered_without _ _ _ _ _ _) _ _ (cases_from_all _ _ _
    (λ e. covered_without c.args.self.now.pre.now c.args.below.now c.args.above.now.common c.args.above.now.on c.args.self.now.excited.now c.args.m e ≡ true)
    (λ e. covered_without c.args.self.now.pre.now c.args.below.now c.args.above.now.common c.args.above.now.on c.args.self.now.excited.now c.args.m e ≡ false)
    c.all.ensures.ran (YieldsList-from_range 0 c.args.self.now.events c.args.self.now.events refl (omega arith)) (λ x q k. search rules) (λ x q k. search rules)))
