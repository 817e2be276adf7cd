-- Searches in rising order: what a loop knows of the numbers that it has passed, and what it answers where it stops, as `lowest` and `index` have it.
use Prim.Native.Nat.{ℕ, zero, suc, ◌+◌, ◌<◌, ◌≤◌}
use native.Mathlib.Omega.{arith}
use borrow.Author.Count.{below_none, below_more}
use borrow.Author.Tests.{lt-ltb, le-ltb}
use mathlib.Core.Path.{◌≡◌, refl, ap, sym, ◌∙◌}
use mathlib.Core.Logic.{◌⊎◌, inl, inr}
use mathlib.Core.Bool.{Bool, not}
use mathlib.Core.List.{List, [], ◌∷◌}
use mathlib.Core.Option.{none, some}
use lib.Dec.{T}
use lib.ListN.{length, get_or}
use Rattle.model.specs.Lists.{index, lowest}
use Rattle.model.proofs.Laws.{order, cond_true, cond_false, none_lowest, lowest_is}
use Rattle.rows.specs.Told.{below}

-- a loop over n numbers has come to k, and what it asks holds of each before k
pub record Upto (P : ℕ → Type 0) (n k : ℕ) : Type 0 where
  pub most : k ≤ n
  pub each : (j : ℕ) → j < k → P j

module _ {P : ℕ → Type 0} {n : ℕ} where
  pub upto_start : Upto P n 0
  upto_start = record { most = omega arith; each = below_none _ }

  pub upto_more : {k : ℕ} → Upto P n k → k < n → P k → Upto P n (k + 1)
  upto_more u l h = record { most = omega arith; each = below_more _ _ u.each h }

-- what a search below n answers: the number at which it stops, or the end
pub below_in : (n k : ℕ) → k < n → below n k ≡ some k
unfolding below
below_in n k l = rw (lt-ltb k n l)

pub below_out : (n k : ℕ) → n ≤ k → below n k ≡ none
unfolding below
below_out n k l = rw (le-ltb k n l)

-- the numbers before k fail the test, and k, if it is below n, passes it
pub searched : (f : ℕ → Bool) (n k : ℕ) → k ≤ n → ((j : ℕ) → j < k → T (not (f j))) → (k < n → T (f k)) → below n k ≡ lowest f n
searched f n k most before here = go (order k n)
  where
    go : (k < n) ⊎ (n ≤ k) → below n k ≡ lowest f n
    go (inl l) = below_in n k l ∙ sym (lowest_is f n k l (here l) before)
    go (inr l) = below_out n k l ∙ sym (none_lowest f n (λ j b. before j (omega arith)))

pub lowest_same : (f g : ℕ → Bool) (n : ℕ) → ((i : ℕ) → i < n → f i ≡ g i) → lowest f n ≡ lowest g n
unfolding lowest
lowest_same f g zero same = refl
lowest_same f g (suc n) same = rw (lowest_same f g n (λ i l. same i (omega arith)), same n (omega arith))

-- the same of the elements of a list, by their positions
pub index_is : {A : Type 0} (f : A → Bool) (l : List A) (d : A) (k : ℕ) → k ≤ length l → ((j : ℕ) → j < k → T (not (f (get_or l j d))))
    → (k < length l → T (f (get_or l k d))) → k ≡ index f l
unfolding index
index_is f [] d zero h b t = refl
index_is f [] d (suc k) h b t = absurd (omega arith)
index_is f (x ∷ l) d zero h b t = sym (cond_true (f x) 0 (suc (index f l)) (t (omega arith)))
index_is f (x ∷ l) d (suc k) h b t =
    let e : k ≡ index f l = index_is f l d k (omega arith) (λ j i. b (suc j) (omega arith)) (λ i. t (omega arith)) in
    ap suc e ∙ sym (cond_false (f x) 0 (suc (index f l)) (b 0 (omega arith)))
