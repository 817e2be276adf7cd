-- The states common to the pre-places of an event, met machine by machine.
use Prim.Native.Nat.{ℕ, ◌+◌, ◌*◌, ◌<◌, ◌≤◌}
use native.Mathlib.Numerals.{add-one}
use native.Mathlib.Omega.{arith}
use mathlib.Core.Path.{◌≡◌, sym, ◌∙◌, subst}
use mathlib.Core.Bool.{not, ◌&&◌, and-true}
use mathlib.Core.List.{List}
use mathlib.Core.Option.{Option}
use borrow.Author.Tests.{lt-ltb, le-ltb}
use Rattle.model.specs.Lists.{lowest}
use Rattle.state_set.specs.declared.StateSet.{StateSet}
use Rattle.state_set.specs.Member.{member}
use Rattle.state_set.specs.Rows.{set_at, member_at}
use Rattle.state_set.proofs.Sets.{full_set, full_member}
use Rattle.rows.specs.Told.{entry}
use Rattle.rows.proofs.Searches.{lowest_same}
use Rattle.closure.specs.Covers.{on_machine, meets, common_to, open_in}

-- ---- one machine
module _ (sets pre : List ℕ) (e k : ℕ) {q : ℕ} (v : q ≡ entry pre (e * 16 + k)) where
  -- the event has a pre-place, whose set is b
  pub meets_on :
      (a b c : StateSet) → q < 64 → b ≡ set_at sets (k * 64 + q) → ((i : ℕ) → member c i ≡ (member a i && member b i))
      → (i : ℕ) → member c i ≡ (member a i && meets sets pre e k i)
  unfolding meets on_machine member_at
  meets_on a b c l s w i = let t : entry pre (e * 16 + k) < 64 = omega arith in w i ∙ rw (lt-ltb (entry pre (e * 16 + k)) 64 t, s, v)

  -- or it is not on the machine
  pub meets_off : (a : StateSet) → 64 ≤ q → (i : ℕ) → member a i ≡ (member a i && meets sets pre e k i)
  unfolding meets on_machine
  meets_off a l i = let t : 64 ≤ entry pre (e * 16 + k) = omega arith in rw (le-ltb (entry pre (e * 16 + k)) 64 t) (sym (and-true (member a i)))

-- ---- machine by machine
-- the set has the states common to the pre-places on the first k machines
pub record Meeting (sets pre : List ℕ) (e machines : ℕ) (common : StateSet) (k : ℕ) : Type 0 where
  pub most : k ≤ machines
  pub members : (i : ℕ) → member common i ≡ common_to sets pre e k i

module _ {sets pre : List ℕ} {e machines : ℕ} where
  pub meet_start : Meeting sets pre e machines full_set 0
  unfolding common_to
  meet_start = record { most = omega arith; members = full_member }

  pub meet_more :
      {a next : StateSet} {k : ℕ} → Meeting sets pre e machines a k → k < machines
      → ((i : ℕ) → member next i ≡ (member a i && meets sets pre e k i)) → Meeting sets pre e machines next (k + 1)
  unfolding common_to
  meet_more {a} {next} {k} m l w = record { most = omega arith; members = λ i. rw (add-one k) (w i ∙ rw (m.members i)) }

  pub meet_end : {a : StateSet} {k : ℕ} → Meeting sets pre e machines a k → machines ≤ k → (i : ℕ) → member a i ≡ common_to sets pre e machines i
  meet_end {a} {k} m l i = let q : k ≡ machines = omega arith in subst (λ (n : ℕ). member a i ≡ common_to sets pre e n i) q (m.members i)

-- what is left of them outside the excitation set
pub left_open :
    (sets pre excited : List ℕ) (machines e : ℕ) (common out left : StateSet) {o : Option ℕ}
    → ((i : ℕ) → member common i ≡ common_to sets pre e machines i) → out ≡ set_at excited e
    → ((i : ℕ) → member left i ≡ (member common i && not (member out i))) → o ≡ lowest (member left) 256 → o ≡ open_in sets pre excited machines e
unfolding open_in member_at
left_open sets pre excited machines e common out left m s w q = q ∙ lowest_same _ _ 256 (λ i _. w i ∙ rw (m i, s))
