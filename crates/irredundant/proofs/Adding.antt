-- A machine is one of those that are kept, event by event.
use Prim.Native.Nat.{ℕ, ◌+◌, ◌<◌, ◌≤◌}
use native.Mathlib.Omega.{arith}
use mathlib.Core.Path.{◌≡◌, sym, ◌∙◌}
use mathlib.Core.Logic.{◌⊎◌, inl, inr}
use mathlib.Core.Bool.{Bool, false, ◌&&◌, ◌||◌}
use mathlib.Core.List.{List}
use lib.ListN.{length, get_or, set, length-set}
use lib.Seq.{get_or-set_same, get_or-set_other}
use Rattle.model.proofs.Laws.{below_suc}
use Rattle.state_set.specs.declared.StateSet.{StateSet}
use Rattle.state_set.specs.Member.{member}
use Rattle.state_set.specs.Rows.{set_at, member_at, Stored}
use Rattle.state_set.proofs.Rows.{stored_here, stored_else}
use Rattle.closure.specs.Covers.{on_machine, meets}

-- done for the first e events, and the entries of the others are as they were
pub record Adding (sets pre : List ℕ) (m events : ℕ) (above : List ℕ) (onAbove : List Bool) (above2 : List ℕ)
    (onAbove2 : List Bool) (e : ℕ) : Type 0 where
  pub most : e ≤ events
  pub above_size : length above2 ≡ length above
  pub on_size : length onAbove2 ≡ length onAbove
  pub common : (j i : ℕ) → j < e → member_at above2 j i ≡ (member_at above j i && meets sets pre j m i)
  pub on : (j : ℕ) → j < e → get_or onAbove2 j false ≡ (get_or onAbove j false || on_machine pre j m)
  pub rest : (j i : ℕ) → e ≤ j → member_at above2 j i ≡ member_at above j i
  pub off : (j : ℕ) → e ≤ j → get_or onAbove2 j false ≡ get_or onAbove j false

module _ {sets pre : List ℕ} {m events : ℕ} {above : List ℕ} {onAbove : List Bool} where
  -- a is the set of event e, b what is met, and t whether the event is on the machine
  pub add_more :
      {row row2 : List ℕ} {marks : List Bool} {e : ℕ} {t : Bool} (a b : StateSet) → events ≤ 64 → length onAbove ≡ 64
      → Adding sets pre m events above onAbove row marks e → e < events → a ≡ set_at row e
      → ((i : ℕ) → member b i ≡ (member a i && meets sets pre e m i)) → Stored e b row row2 → t ≡ on_machine pre e m
      → Adding sets pre m events above onAbove row2 (set marks e (get_or marks e false || t)) (e + 1)
  unfolding member_at
  add_more {row} {row2} {marks} {e} {t} a b small wide x l v w s u =
      record {
        most = omega arith;
        above_size = s.size ∙ x.above_size;
        on_size = length-set marks e _ ∙ x.on_size;
        common = λ j i h. common_at j i (below_suc j e (omega arith));
        on = λ j h. on_at j (below_suc j e (omega arith));
        rest = λ j i h. stored_else s j i (λ p. omega arith) ∙ x.rest j i (omega arith);
        off = λ j h. get_or-set_other marks e j _ false (λ p. omega arith) ∙ x.off j (omega arith);
      }
    where
      common_at : (j i : ℕ) → (j < e) ⊎ (j ≡ e) → member_at row2 j i ≡ (member_at above j i && meets sets pre j m i)
      common_at j i (inl h) = stored_else s j i (λ p. omega arith) ∙ x.common j i h
      common_at j i (inr h) = stored_here s j i h ∙ w i ∙ rw (v, h, sym (x.rest e i (omega arith)))

      on_at : (j : ℕ) → (j < e) ⊎ (j ≡ e) → get_or (set marks e (get_or marks e false || t)) j false ≡ (get_or onAbove j false || on_machine pre j m)
      on_at j (inl h) = get_or-set_other marks e j _ false (λ p. omega arith) ∙ x.on j h
      on_at j (inr h) = rw h (get_or-set_same marks e _ false (omega (arith, x.on_size)) ∙ rw (u, x.off e (omega arith)))
