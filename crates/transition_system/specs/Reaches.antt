-- What a search for the reached states answers: a set that has the initial state, is closed under the transitions, and has no other state than these lead to.
use Rattle.std.specs.Prelude.{ℕ, ◌≡◌, true}
use mathlib.Core.List.{Memᴰ}
use Rattle.model.specs.TransitionSystem.{Transition, TransitionSystem}
use Rattle.model.proofs.Reach.{Leads}
use Rattle.state_set.specs.declared.StateSet.{StateSet}
use Rattle.state_set.specs.Member.{member}

pub record Reaches (ts : TransitionSystem) (set : StateSet) : Type 0 where
  pub begins : member set ts.initial ≡ true
  pub closed : (t : Transition) → Memᴰ t ts.transitions → member set t.source ≡ true → member set t.target ≡ true
  pub only : (s : ℕ) → member set s ≡ true → Leads ts s
