-- The lowest state outside the reached ones is the model's, where it is below the count of states.
use Prim.Native.Nat.{ℕ}
use mathlib.Core.Path.{◌≡◌, sym, ap, ◌∙◌}
use mathlib.Core.Option.{Option}
use native.Mathlib.Omega.{arith}
use Rattle.model.specs.TransitionSystem.{TransitionSystem, and_then, unreachable_state}
use Rattle.model.proofs.Bounds.{Within}
use Rattle.rows.specs.Told.{below}
use Rattle.rows.proofs.Searches.{below_in, below_out}
use Rattle.state_set.specs.Member.{state_found}
use Rattle.transition_system.specs.Sets.{Successors}
use Rattle.transition_system.proofs.Unreached.{unreached_by}
use Rattle.transition_system.proofs.unreached_state.Goals.{After-lowest}
use Rattle.transition_system.proofs.unreached_state.Goals as goal

-- what the lowest state outside tells
outside : (c : After-lowest) {o : Option ℕ} → state_found c.lowest.result ≡ o
    → (ts : TransitionSystem) → Within ts → ts.states ≡ c.args.n
    → ts.initial ≡ c.args.initial → Successors ts.transitions c.args.successors.now
    → and_then o (below c.args.n) ≡ unreachable_state ts
outside c e ts w p i q =
    unreached_by _ c.requires.2 c.without.ensures (sym e ∙ c.lowest.ensures) ts w p
    (c.reached.ensures ts i q)

pub returns-in_err-lowest_outside : goal.returns-in_err-lowest_outside
unfolding state_found and_then
returns-in_err-lowest_outside c ts w p i q =
    rw c.from_residual.ensures (outside (goal.at.returns-in_err-lowest_outside c).After-lowest (ap state_found c.in_err-lowest_outside.was) ts w p i q)

pub returns-then-s-n : goal.returns-then-s-n
unfolding state_found and_then
returns-then-s-n c ts w p i q =
    rw c.from-s.ensures (sym (below_in _ _ (omega arith)))
    ∙ outside (goal.at.returns-then-s-n c).After-lowest (ap state_found c.in_ok-lowest_outside.was) ts w p i q

pub returns-else-s-n : goal.returns-else-s-n
unfolding state_found and_then
returns-else-s-n c ts w p i q =
    sym (below_out _ _ (omega arith))
    ∙ outside (goal.at.returns-else-s-n c).After-lowest (ap state_found c.in_ok-lowest_outside.was) ts w p i q
