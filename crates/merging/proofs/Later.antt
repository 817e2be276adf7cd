-- The states common to pre-places on the machines after each machine, one machine further down, event by event.
use Prim.Native.Nat.{ℕ, suc, ◌+◌, ◌*◌, ◌<◌, ◌≤◌}
use native.Mathlib.Omega.{arith}
use mathlib.Core.Path.{◌≡◌, sym, ◌∙◌}
use mathlib.Core.Logic.{◌⊎◌, inl, inr, ◌↔◌}
use mathlib.Core.Bool.{◌&&◌}
use mathlib.Core.List.{List}
use lib.Dec.{T}
use lib.ListN.{length, replicate}
use Rattle.model.proofs.Laws.{below_suc}
use Rattle.state_set.specs.declared.StateSet.{StateSet}
use Rattle.state_set.specs.Member.{member}
use Rattle.state_set.specs.Rows.{set_at, member_at, Stored}
use Rattle.state_set.proofs.Sets.{full_word}
use Rattle.state_set.proofs.Rows.{stored_here, stored_else, full_row}
use Rattle.closure.specs.Covers.{meets}
use Rattle.merging.specs.Bars.{Full}

pub all_full : (words events : ℕ) → events * 64 ≤ words → Full events (replicate words full_word)
all_full words events l = record { full = λ e k i h b. full_row words (e * 16 + k) i (omega arith) }

-- ---- one machine, event by event
-- the sets of machine m are there for the first e events, and those after are as they were
pub record Extending (sets pre : List ℕ) (m events : ℕ) (old new : List ℕ) (e : ℕ) : Type 0 where
  pub most : e ≤ events
  pub size : length new ≡ length old
  pub next : (j i : ℕ) → j < e → member_at new (j * 16 + m) i ≡ (member_at old (j * 16 + suc m) i && meets sets pre j (suc m) i)
  pub after : (k j i : ℕ) → m < k → k < 16 → member_at new (j * 16 + k) i ≡ member_at old (j * 16 + k) i

module _ {sets pre : List ℕ} {m events : ℕ} {old : List ℕ} where
  -- a is the set of event e on machine m + 1, and b what is met
  pub extend_more :
      {row row2 : List ℕ} {e k n : ℕ} (a b : StateSet) → m < 15 → Extending sets pre m events old row e → e < events → a ≡ set_at row (k + 1)
      → ((i : ℕ) → member b i ≡ (member a i && meets sets pre e n i)) → n ≡ suc m → k ≡ e * 16 + m → Stored k b row row2
      → Extending sets pre m events old row2 (e + 1)
  unfolding member_at
  extend_more {row} {row2} {e} {k} {n} a b small x l v w r q s =
      record {
        most = omega arith;
        size = s.size ∙ x.size;
        next = λ j i h. at j i (below_suc j e (omega arith));
        after = λ d j i h t. stored_else s (j * 16 + d) i (λ p. omega arith) ∙ x.after d j i h t;
      }
    where
      up : k + 1 ≡ e * 16 + suc m
      up = omega arith

      at : (j i : ℕ) → (j < e) ⊎ (j ≡ e) → member_at row2 (j * 16 + m) i ≡ (member_at old (j * 16 + suc m) i && meets sets pre j (suc m) i)
      at j i (inl h) = stored_else s (j * 16 + m) i (λ p. omega arith) ∙ x.next j i h
      at j i (inr h) =
          stored_here s (j * 16 + m) i (omega arith) ∙ w i
          ∙ rw (v, up, h, r, sym (x.after (suc m) e i (omega arith) (omega arith)))

-- ---- machine by machine, from the last
-- the sets of the machines from left - 1 on
pub record Extended (sets pre : List ℕ) (machines events : ℕ) (old row : List ℕ) (left : ℕ) : Type 0 where
  pub most : left ≤ machines
  pub few : machines ≤ 16
  pub size : length row ≡ length old
  pub common : (k e i : ℕ) → left ≤ suc k → k < machines → e < events
      → T (member_at row (e * 16 + k) i) ↔ ((i < 256) × ((j : ℕ) → k < j → j < machines → T (meets sets pre e j i)))
