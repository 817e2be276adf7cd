-- The event is on one of the machines that `any` goes over, or on none. The laws are in `Effective`.
use native.Mathlib.Omega.{arith}
use mathlib.Core.Path.{◌≡◌, refl}
use mathlib.Core.Bool.{true, false}
use borrow.Author.Rules.{rules}
use borrow.Author.Tests.{tests}
use Rattle.std.proofs.lemmas.Iterator.{cases_from_any, YieldsList-from_range}
use Rattle.closure.specs.Covers.{on_machine}
use Rattle.closure.proofs.Effective.{on_any}
use Rattle.closure.proofs.is_effective.Goals as goal

pub returns : goal.returns
returns c =
    let a = c.args in
    on_any a.pre.now a.e a.machines c.any.result
    (cases_from_any _ _ _ (λ m. on_machine a.pre.now a.e m ≡ true) (λ m. on_machine a.pre.now a.e m ≡ false) c.any.ensures.ran (YieldsList-from_range 0 a.machines a.machines refl (omega arith))
    (λ x q k. search (rules, tests)) (λ x q k. search (rules, tests)))
