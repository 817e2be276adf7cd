-- Searches over the states and over the events.
use Prim.Native.Nat.{ℕ, zero, suc, ◌+◌, ◌<◌, ◌≤◌}
use native.Mathlib.Omega.{arith}
use mathlib.Core.Path.{◌≡◌, refl, ap, sym, ◌∙◌}
use mathlib.Core.Logic.{◌⊎◌, inl, inr}
use mathlib.Core.Bool.{Bool, false, not}
use mathlib.Core.Option.{Option, none, some, or_else}
use lib.Dec.{T}
use Rattle.model.specs.Lists.{lowest}
use Rattle.model.specs.Refusal.{refuse}
use Rattle.model.proofs.Laws.{below_suc, order, Lowest, found, absent, lowest_view, none_lowest, or_else_none, map_none}
use Rattle.state_set.specs.Member.{state_found}
use Rattle.std.specs.Prelude.{Some, None}
use Rattle.std.specs.Prelude as Std
use Rattle.rows.proofs.Searches.{Upto, upto_more, below_in, searched, lowest_same}
use Rattle.closure.specs.Covers.{open_refusal}

-- a search over more numbers, of which the further ones do not pass
pub lowest_within : (f g : ℕ → Bool) (n m : ℕ) → n ≤ m → ((i : ℕ) → i < n → f i ≡ g i) → ((i : ℕ) → n ≤ i → f i ≡ false) → lowest f m ≡ lowest g n
lowest_within f g n m l same past = go (lowest_view f n) ∙ lowest_same f g n same
  where
    go : Lowest f n → lowest f m ≡ lowest f n
    go (found k e b t h) = sym (searched f m k (omega arith) h (λ _. t)) ∙ below_in m k (omega arith) ∙ sym e
    go (absent e h) = none_lowest f m (λ i _. at i (order i n)) ∙ sym e
      where
        at : (i : ℕ) → (i < n) ⊎ (n ≤ i) → T (not (f i))
        at i (inl b) = h i b
        at i (inr b) = rw (past i b) tt

-- ---- 12 over the events
module _ (f : ℕ → Option ℕ) where
  -- no event has an open state, or the first that has one is refused
  pub none_open : (n : ℕ) → ((k : ℕ) → k < n → f k ≡ none) → open_refusal f n ≡ none
  unfolding open_refusal or_else
  none_open zero h = refl
  none_open (suc n) h = rw (none_open n (λ k l. h k (omega arith)), h n (omega arith))

  pub open_none : (n : ℕ) → open_refusal f n ≡ none → (k : ℕ) → k < n → f k ≡ none
  unfolding open_refusal
  open_none zero q k l = absurd (omega arith)
  open_none (suc n) q k l = go (below_suc k n l) (open_none n (or_else_none _ _ q).0 k)
    where
      go : (k < n) ⊎ (k ≡ n) → (k < n → f k ≡ none) → f k ≡ none
      go (inl b) ih = ih b
      go (inr b) ih = rw b (map_none _ _ (or_else_none _ _ q).1)

  pub open_is : (k n s : ℕ) → k < n → ((j : ℕ) → j < k → f j ≡ none) → f k ≡ some s → open_refusal f n ≡ some (refuse 12 k s)
  unfolding open_refusal or_else
  open_is k zero s l h q = absurd (omega arith)
  open_is k (suc n) s l h q = go (below_suc k n l) (λ b. open_is k n s b h q)
    where
      go : (k < n) ⊎ (k ≡ n) → (k < n → open_refusal f n ≡ some (refuse 12 k s)) → open_refusal f (suc n) ≡ some (refuse 12 k s)
      go (inl b) ih = rw (ih b)
      go (inr b) ih = rw (← b, none_open k h, q)

  -- what the search in one event's set gave
  pub open_more : {n k : ℕ} {r : Std.Option ℕ} → Upto (λ j. f j ≡ none) n k → k < n → state_found r ≡ f k → r ≡ None → Upto (λ j. f j ≡ none) n (k + 1)
  unfolding state_found
  open_more m l v u = upto_more m l (sym v ∙ ap state_found u)

  pub open_here :
      {n k s w : ℕ} {r : Std.Option ℕ} → Upto (λ j. f j ≡ none) n k → k < n → state_found r ≡ f k → r ≡ Some s → w ≡ s
      → some (refuse 12 k w) ≡ open_refusal f n
  unfolding state_found
  open_here {n} {k} {s} {w} m l v u q = sym (open_is k n w l m.each (rw (sym v, u, q)))
