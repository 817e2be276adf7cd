-- Rows: values stored one after another, and what stands where.
use Prim.Native.Nat.{ℕ, zero, suc, ◌+◌, ◌<◌, ◌≤◌}
use native.Mathlib.Omega.{arith}
use mathlib.Core.Path.{◌≡◌, refl, ap, ◌∙◌}
use mathlib.Core.Logic.{◌⊎◌, inl, inr}
use mathlib.Core.List.{List, [], ◌∷◌, ◌++◌, map}
use mathlib.Core.Option.{none-ne-some, some-injective}
use lib.ListN.{length, get_or, drop, replicate, length-append, length-map, length-replicate, get_or-append}
use lib.Seq.{sets-eq, get_or_at}
use Rattle.model.specs.Lists.{At}
use Rattle.model.specs.Machine.{Place}
use Rattle.model.proofs.Laws.{below_suc}
use Rattle.model.proofs.Positions.{at_below}
use Rattle.rows.specs.Rows.{row, tabulate, place_mark, place_row}

module _ (n x : ℕ) (xs : List ℕ) where
  -- a value that was stored
  pub get_d_row : (k d : ℕ) → k < length xs → length xs ≤ n → get_or (row n x xs) k d ≡ get_or xs k d
  unfolding row
  get_d_row k d h m =
      let z : 0 + length xs ≤ length (replicate n x) = omega (arith, length-replicate n x) in
      rw (sets-eq xs (replicate n x) 0 z) (get_or-append xs (drop (0 + length xs) (replicate n x)) d k h)

-- what f says of the element at a position
module _ {A : Type 0} (f : A → ℕ) where
  map_at : (l : List A) (k : ℕ) (a : A) (d : ℕ) → At l k a → get_or (map f l) k d ≡ f a
  map_at [] k a d h = absurd (none-ne-some a h)
  map_at (y ∷ l) zero a d h = ap f (some-injective y a h)
  map_at (y ∷ l) (suc k) a d h = map_at l k a d h

  pub row_at : (n x : ℕ) (l : List A) (k : ℕ) (a : A) (d : ℕ) → length l ≤ n → At l k a → get_or (row n x (map f l)) k d ≡ f a
  row_at n x l k a d h p =
      get_d_row n x (map f l) k d (omega (arith, length-map l f, at_below l k a p)) (omega (arith, length-map l f)) ∙ map_at l k a d p

-- the values of a function
module _ (f : ℕ → ℕ) where
  pub length_tabulate : (n : ℕ) → length (tabulate f n) ≡ n
  unfolding tabulate
  length_tabulate zero = refl
  length_tabulate (suc n) = omega (arith, length-append (tabulate f n) (f n ∷ []), length_tabulate n)

  pub get_d_tabulate : (n k d : ℕ) → k < n → get_or (tabulate f n) k d ≡ f k
  unfolding tabulate
  get_d_tabulate zero k d h = absurd (omega arith)
  get_d_tabulate (suc n) k d h = go (below_suc k n h) (get_d_tabulate n k d)
    where
      go : (k < n) ⊎ (k ≡ n) → (k < n → get_or (tabulate f n) k d ≡ f k) → get_or (tabulate f n ++ (f n ∷ [])) k d ≡ f k
      go (inl l) ih = get_or-append (tabulate f n) (f n ∷ []) d k (omega (arith, length_tabulate n)) ∙ ih l
      go (inr e) ih = rw e (get_or_at (tabulate f n) (f n) [] d n (length_tabulate n))

-- a machine's row
module _ (ps : List Place) where
  pub length_place_row : length (place_row ps) ≡ 256
  unfolding place_row
  length_place_row = length_tabulate (place_mark ps) 256

  pub get_d_place_row : (x d : ℕ) → x < 256 → get_or (place_row ps) x d ≡ place_mark ps x
  unfolding place_row
  get_d_place_row x d h = get_d_tabulate (place_mark ps) 256 x d h
