-- A loop that reads items one after another. G b r is its answer where it has b so far and r, the items and their end, lies ahead.
use Prim.Native.Nat.{ℕ, zero, suc, ◌+◌, ◌<◌, ◌≤◌}
use native.Mathlib.Omega.{arith}
use mathlib.Core.Path.{◌≡◌, refl, ap, sym, ◌∙◌}
use mathlib.Core.List.{List, [], ◌∷◌}
use lib.ListN.{length}
use Rattle.model.specs.Reading.{Parsed, fail, got, Reader, more, at_most, many}

-- a reader that goes on, and stays within the text
pub record Moves {A : Type 0} (r : Reader A) : Type 0 where
  pub on : (s : List ℕ) (at : ℕ) (a : A) (next : ℕ) → r s at ≡ got a next → (at < next) × (next ≤ length s)

-- the loop has b and stands at i, and the items from i on give the answer t
pub record Items {A B R : Type 0} (r : Reader A) (G : B → List A × ℕ → R) (s : List ℕ) (t : R) (b : B) (i : ℕ) : Type 0 where
  pub fuel : ℕ
  pub enough : length s ≤ fuel + i
  pub same : G b (at_most fuel r s i) ≡ t

-- an item, and what is left to read after it
abbrev joined : {A : Type 0} → A → List A × ℕ → List A × ℕ
joined a p = (a ∷ p.0, p.1)

module _ {A : Type 0} (r : Reader A) (s : List ℕ) (at : ℕ) where
  none_at : r s at ≡ fail → (k : ℕ) → at_most k r s at ≡ ([], at)
  none_at e zero = refl
  none_at e (suc k) = rw e

  stuck : Moves r → length s ≤ at → r s at ≡ fail
  stuck mv h = go (r s at) refl
    where
      go : (o : Parsed A) → r s at ≡ o → o ≡ fail
      go fail e = refl
      go (got a next) e = let m = mv.on s at a next e in absurd (omega arith)

pub items_none : {A B R : Type 0} (r : Reader A) (G : B → List A × ℕ → R) (s : List ℕ) (b : B) (at : ℕ) → Items r G s (G b (many r s at)) b at
items_none r G s b at = record { fuel = length s; enough = omega arith; same = refl }

module _ {A B R : Type 0} {r : Reader A} {G : B → List A × ℕ → R} {s : List ℕ} {t : R} {b : B} {i : ℕ} where
  ahead : Moves r → Items r G s t b i → (a : A) (next : ℕ) → r s i ≡ got a next
      → (k : ℕ) × (length s ≤ k + next) × (G b (joined a (at_most k r s next)) ≡ t)
  ahead m inv a next e = go inv.fuel inv.enough inv.same
    where
      go : (k : ℕ) → length s ≤ k + i → G b (at_most k r s i) ≡ t → (k : ℕ) × (length s ≤ k + next) × (G b (joined a (at_most k r s next)) ≡ t)
      go zero en sa = let h = m.on s i a next e in absurd (omega arith)
      go (suc k) en sa = let h = m.on s i a next e in (k, omega arith, rw e at sa)

  -- an item more, after which the loop has b'
  pub items_more : Moves r → Items r G s t b i → (a : A) (next : ℕ) → r s i ≡ got a next → (b' : B)
      → ((l : List A) (end : ℕ) → G b (a ∷ l, end) ≡ G b' (l, end)) → Items r G s t b' next
  items_more m inv a next e b' h =
      let (k, en, sa) = ahead m inv a next e in
      record { fuel = k; enough = en; same = sym (h (at_most k r s next).0 (at_most k r s next).1) ∙ sa }

  -- no item more
  pub items_end : Items r G s t b i → r s i ≡ fail → G b ([], i) ≡ t
  items_end inv e = ap (G b) (sym (none_at r s i e inv.fuel)) ∙ inv.same

module _ {A : Type 0} {r : Reader A} (mv : Moves r) (s : List ℕ) where
  -- enough is enough
  fuel : (k m at : ℕ) → length s ≤ k + at → length s ≤ m + at → at_most k r s at ≡ at_most m r s at
  fuel zero m at a b = sym (none_at r s at (stuck r s at mv (omega arith)) m)
  fuel (suc k) zero at a b = none_at r s at (stuck r s at mv (omega arith)) (suc k)
  fuel (suc k) (suc m) at a b = go (r s at) refl (λ n h. fuel k m n (omega arith) (omega arith))
    where
      go : (o : Parsed A) → r s at ≡ o → ((n : ℕ) → at < n → at_most k r s n ≡ at_most m r s n) → more o at (at_most k r s) ≡ more o at (at_most m r s)
      go fail e h = refl
      go (got x next) e h = ap (joined x) (h next (mv.on s at x next e).0)

  module _ (at : ℕ) where
    pub many_more : (a : A) (next : ℕ) → r s at ≡ got a next → many r s at ≡ (a ∷ (many r s next).0, (many r s next).1)
    many_more a next e = go (length s) refl
      where
        go : (k : ℕ) → length s ≡ k → at_most k r s at ≡ joined a (many r s next)
        go zero q = let h = mv.on s at a next e in absurd (omega arith)
        go (suc k) q = let h = mv.on s at a next e in rw e (ap (joined a) (fuel k (length s) next (omega arith) (omega arith)))

    pub many_none : r s at ≡ fail → many r s at ≡ ([], at)
    many_none e = none_at r s at e (length s)

    -- the items of a list end where they began or later
    pub many_reach : at ≤ (many r s at).1
    many_reach = go (length s) at
      where
        on : (k at : ℕ) (o : Parsed A) → r s at ≡ o → ((n : ℕ) → n ≤ (at_most k r s n).1) → at ≤ (more o at (at_most k r s)).1
        on k at fail e h = omega arith
        on k at (got x next) e h = omega (arith, (mv.on s at x next e).0, h next)

        go : (k at : ℕ) → at ≤ (at_most k r s at).1
        go zero at = omega arith
        go (suc k) at = on k at (r s at) refl (go k)
