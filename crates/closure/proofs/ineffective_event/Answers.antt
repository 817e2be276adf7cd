-- The events passed are each on a machine. The laws are in `Effective`.
use native.Mathlib.Omega.{arith}
use mathlib.Core.Path.{sym, ◌∙◌}
use Rattle.state_set.specs.Member.{state_found}
use Rattle.closure.proofs.Effective.{ineffective_found, all_effective}
use Rattle.closure.proofs.ineffective_event.Goals as goal

pub returns-then-not-is_effective : goal.returns-then-not-is_effective
unfolding state_found
returns-then-not-is_effective c = ineffective_found _ _ _ _ (omega arith) c.loop-e.invariant (sym c.is_effective.ensures ∙ c.if-not-is_effective.true)

pub returns : goal.returns
unfolding state_found
returns c = all_effective _ _ _ (λ j l. c.loop-e.invariant j (omega arith))
