-- The states common to pre-places on the machines before each machine, one machine further, event by event.
use Prim.Native.Nat.{ℕ, suc, ◌+◌, ◌*◌, ◌<◌, ◌≤◌}
use native.Mathlib.Omega.{arith}
use mathlib.Core.Path.{◌≡◌, refl, sym, ◌∙◌}
use mathlib.Core.Logic.{◌⊎◌, inl, inr}
use mathlib.Core.Bool.{◌&&◌}
use mathlib.Core.List.{List}
use lib.ListN.{length, replicate}
use Rattle.model.proofs.Laws.{below_suc}
use Rattle.state_set.specs.declared.StateSet.{StateSet}
use Rattle.state_set.specs.Member.{member}
use Rattle.state_set.specs.Rows.{set_at, member_at, Stored}
use Rattle.state_set.proofs.Sets.{full_word}
use Rattle.state_set.proofs.Rows.{stored_here, stored_else, full_row}
use Rattle.closure.specs.Covers.{meets, common_to}
use Rattle.irredundant.specs.Kept.{Extends, AllStates, Below}

-- ---- one machine, event by event
-- the sets of machine m + 1 are there for the first e events, and those before are as they were
pub record Extending (sets pre : List ℕ) (m events : ℕ) (old new : List ℕ) (e : ℕ) : Type 0 where
  pub most : e ≤ events
  pub size : length new ≡ length old
  pub next : (j i : ℕ) → j < e → member_at new (j * 16 + suc m) i ≡ (member_at old (j * 16 + m) i && meets sets pre j m i)
  pub before : (k j i : ℕ) → k < suc m → member_at new (j * 16 + k) i ≡ member_at old (j * 16 + k) i

module _ {sets pre : List ℕ} {m events : ℕ} {old : List ℕ} where
  -- a is the set of event e on machine m, and b what is met
  pub extend_more :
      {row row2 : List ℕ} {e k : ℕ} (a b : StateSet) → m < 15 → Extending sets pre m events old row e → e < events → a ≡ set_at row (e * 16 + m)
      → ((i : ℕ) → member b i ≡ (member a i && meets sets pre e m i)) → k ≡ e * 16 + suc m → Stored k b row row2
      → Extending sets pre m events old row2 (e + 1)
  unfolding member_at
  extend_more {row} {row2} {e} {k} a b small x l v w q s =
      record {
        most = omega arith;
        size = s.size ∙ x.size;
        next = λ j i h. at j i (below_suc j e (omega arith));
        before = λ n j i h. stored_else s (j * 16 + n) i (λ p. omega arith) ∙ x.before n j i h;
      }
    where
      at : (j i : ℕ) → (j < e) ⊎ (j ≡ e) → member_at row2 (j * 16 + suc m) i ≡ (member_at old (j * 16 + m) i && meets sets pre j m i)
      at j i (inl h) = stored_else s (j * 16 + suc m) i (λ p. omega arith) ∙ x.next j i h
      at j i (inr h) =
          stored_here s (j * 16 + suc m) i (omega arith) ∙ w i
          ∙ rw (v, h, sym (x.before m e i (omega arith)))

-- ---- machine by machine
-- the sets of the first m machines, which are at least one, in a row as long as the old one
pub record Extended (sets pre : List ℕ) (events : ℕ) (old row : List ℕ) (m : ℕ) : Type 0 where
  pub one : 1 ≤ m
  pub most : m ≤ 16
  pub size : length row ≡ length old
  pub made : Below sets pre m events row

pub all_states : (words events : ℕ) → events * 64 ≤ words → AllStates events (replicate words full_word)
all_states words events l = record { full = λ e i h. full_row words (e * 16) i (omega arith) }

module _ {sets pre : List ℕ} {events : ℕ} {old : List ℕ} where
  -- no machine is before the first, so all states are common
  pub below_start : AllStates events old → Extended sets pre events old old 1
  unfolding common_to
  below_start all =
      record { one = omega arith; most = omega arith; size = refl; made = record { common = λ k e i l b. at k e i b (omega arith) } }
    where
      at : (k e i : ℕ) → e < events → k ≡ 0 → member_at old (e * 16 + k) i ≡ common_to sets pre e k i
      at k e i b q = let z : e * 16 + 0 ≡ e * 16 = omega arith in rw (q, z) (all.full e i b)

  pub below_more : {row row2 : List ℕ} {m n : ℕ} → Extended sets pre events old row m → m < 16 → m ≡ suc n
      → Extends sets pre n events row row2 → Extended sets pre events old row2 (m + 1)
  unfolding common_to
  below_more {row} {row2} {m} {n} x l q g =
      record {
        one = omega arith;
        most = omega arith;
        size = g.size ∙ x.size;
        made = record { common = λ k e i h b. at k e i b (below_suc k m (omega arith)) };
      }
    where
      at : (k e i : ℕ) → e < events → (k < m) ⊎ (k ≡ m) → member_at row2 (e * 16 + k) i ≡ common_to sets pre e k i
      at k e i b (inl h) = g.before k e i (omega arith) ∙ x.made.common k e i h b
      at k e i b (inr h) = rw (h, q) (g.next e i b ∙ rw (x.made.common n e i (omega arith) b))
