-- Lists whose elements stand in an order, and the numbers that pass a test, rising.
use Prim.Native.Nat.{ℕ, zero, suc, ◌≤◌, ◌<◌}
use native.Mathlib.Omega.{arith}
use mathlib.Core.Path.{◌≡◌, refl, ap, sym, ◌∙◌, subst}
use mathlib.Core.Logic.{◌⊎◌, inl, inr}
use mathlib.Core.Bool.{Bool, true, false, cond}
use mathlib.Core.List.Memᴰ
use mathlib.Core.List.{List, [], ◌∷◌, ◌++◌, map, Memᴰ}
use mathlib.Core.Option.{none-ne-some, some-injective}
use lib.Dec.{T}
use lib.ListN.{length, length-append}
use Rattle.model.specs.Lists.{At, satisfying, numbers}
use Rattle.model.specs.Quotation.{chosen}
use Rattle.model.proofs.Laws.{satisfying_intro, satisfying_elim}
use Rattle.model.proofs.ListLaws.{map_mem}
use Rattle.model.proofs.Positions.{at_mem, number_at, numbers_below}

module _ {A : Type 0} where
  -- each element stands in this relation to all after it
  abbrev pub Rising : (A → A → Type 0) → List A → Type 0
  Rising R [] = Unit {0}
  Rising R (x ∷ l) = ((y : A) → Memᴰ y l → R x y) × Rising R l

  pub rising_at : (R : A → A → Type 0) (l : List A) → Rising R l → (a b : ℕ) (x y : A) → a < b → At l a x → At l b y → R x y
  rising_at R [] r a b x y h p q = absurd (none-ne-some x p)
  rising_at R (z ∷ l) r a zero x y h p q = absurd (omega arith)
  rising_at R (z ∷ l) r zero (suc b) x y h p q = subst (λ (u : A). R u y) (some-injective z x p) (r.0 y (at_mem l b y q))
  rising_at R (z ∷ l) r (suc a) (suc b) x y h p q = rising_at R l r.1 a b x y (omega arith) p q

  pub rising_append : (R : A → A → Type 0) (l m : List A) → Rising R l → Rising R m → ((x y : A) → Memᴰ x l → Memᴰ y m → R x y) → Rising R (l ++ m)
  rising_append R [] m r s h = s
  rising_append R (x ∷ l) m r s h = (λ y k. go y (Memᴰ.append_cases l k), rising_append R l m r.1 s (λ u v i j. h u v (Memᴰ.tail i) j))
    where
      go : (y : A) → Memᴰ y l ⊎ Memᴰ y m → R x y
      go y (inl i) = r.0 y i
      go y (inr j) = h x y (Memᴰ.head refl) j

module _ {A B : Type 0} where
  pub rising_map : (R : A → A → Type 0) (S : B → B → Type 0) (f : A → B) → ((x y : A) → R x y → S (f x) (f y)) → (l : List A) → Rising R l → Rising S (map f l)
  rising_map R S f h [] r = tt
  rising_map R S f h (x ∷ l) r = (λ y k. let w = map_mem f l y k in subst (S (f x)) (sym w.2) (h x w.0 (r.0 w.0 w.1)), rising_map R S f h l r.1)

-- ---- the numbers below n that pass a test

module _ (f : ℕ → Bool) where
  pub chosen_mem : (n k : ℕ) → Memᴰ k (chosen f n) → (k < n) × T (f k)
  unfolding chosen
  chosen_mem n k m = let w = satisfying_elim f (numbers n) k m in (numbers_below n k w.0, w.1)

  pub mem_chosen : (n k : ℕ) → k < n → T (f k) → Memᴰ k (chosen f n)
  unfolding chosen
  mem_chosen n k h t = satisfying_intro f (numbers n) k (at_mem (numbers n) k k (number_at n k h)) t

  satisfying_last : (l : List ℕ) (n : ℕ) → satisfying f (l ++ (n ∷ [])) ≡ cond (f n) (satisfying f l ++ (n ∷ [])) (satisfying f l)
  unfolding satisfying
  satisfying_last [] n = go (f n)
    where
      go : (b : Bool) → cond b (n ∷ []) [] ≡ cond b ([] ++ (n ∷ [])) []
      go true = refl
      go false = refl
  satisfying_last (x ∷ l) n = ap (λ (u : List ℕ). cond (f x) (x ∷ u) u) (satisfying_last l n) ∙ go (f x) (f n)
    where
      go : (a b : Bool) → cond a (x ∷ cond b (satisfying f l ++ (n ∷ [])) (satisfying f l)) (cond b (satisfying f l ++ (n ∷ [])) (satisfying f l))
          ≡ cond b (cond a (x ∷ satisfying f l) (satisfying f l) ++ (n ∷ [])) (cond a (x ∷ satisfying f l) (satisfying f l))
      go true true = refl
      go true false = refl
      go false true = refl
      go false false = refl

  chosen_next : (n : ℕ) → chosen f (suc n) ≡ cond (f n) (chosen f n ++ (n ∷ [])) (chosen f n)
  unfolding chosen numbers
  chosen_next n = satisfying_last (numbers n) n

  pub chosen_none : chosen f 0 ≡ []
  unfolding chosen numbers satisfying
  chosen_none = refl

  pub chosen_yes : (n : ℕ) → f n ≡ true → chosen f (suc n) ≡ chosen f n ++ (n ∷ [])
  chosen_yes n e = chosen_next n ∙ ap (λ (b : Bool). cond b (chosen f n ++ (n ∷ [])) (chosen f n)) e

  pub chosen_no : (n : ℕ) → f n ≡ false → chosen f (suc n) ≡ chosen f n
  chosen_no n e = chosen_next n ∙ ap (λ (b : Bool). cond b (chosen f n ++ (n ∷ [])) (chosen f n)) e

  pub chosen_rising : (n : ℕ) → Rising ◌<◌ (chosen f n)
  chosen_rising zero = rw chosen_none tt
  chosen_rising (suc n) = rw (chosen_next n) (go (f n) (chosen_rising n))
    where
      last : (x y : ℕ) → Memᴰ x (chosen f n) → Memᴰ y (n ∷ []) → x < y
      last x y i (Memᴰ.head q) = subst (λ (z : ℕ). x < z) (sym q) (chosen_mem n x i).0
      last x y i (Memᴰ.tail j) = elim j [ ]

      go : (b : Bool) → Rising ◌<◌ (chosen f n) → Rising ◌<◌ (cond b (chosen f n ++ (n ∷ [])) (chosen f n))
      go true r = rising_append ◌<◌ (chosen f n) (n ∷ []) r (λ y j. elim j [ ], tt) last
      go false r = r

  pub chosen_length : (n : ℕ) → length (chosen f n) ≤ n
  chosen_length zero = rw chosen_none (omega arith)
  chosen_length (suc n) = rw (chosen_next n) (go (f n) (chosen_length n))
    where
      go : (b : Bool) → length (chosen f n) ≤ n → length (cond b (chosen f n ++ (n ∷ [])) (chosen f n)) ≤ suc n
      go true h = omega (arith, length-append (chosen f n) (n ∷ []))
      go false h = omega arith
