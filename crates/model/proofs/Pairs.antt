-- Lists of one length with a relation between each pair.
use Prim.Native.Nat.{ℕ, zero, suc}
use mathlib.Core.Path.{◌≡◌, refl, ap, subst}
use mathlib.Core.List.{List, [], ◌∷◌, ◌++◌, Memᴰ}
use mathlib.Core.Option.{some-injective, none-ne-some}
use lib.ListN.{length, take}
use Rattle.model.specs.Lists.{At, Pairwise}
use Rattle.model.proofs.Positions.{at_mem, mem_at}

-- each with itself
pub pairwise_same : {E : Type 0} (R : E → E → Type 0) (es : List E) → ((e : E) → Memᴰ e es → R e e) → Pairwise R es es
pairwise_same R [] h = tt
pairwise_same R (e ∷ es) h = (h e (Memᴰ.head refl), pairwise_same R es (λ d i. h d (Memᴰ.tail i)))

pub pairwise_map : {A B : Type 0} {R S : A → B → Type 0} (xs : List A) (ys : List B) → ((x : A) (y : B) → R x y → S x y) → Pairwise R xs ys → Pairwise S xs ys
pairwise_map [] [] f h = tt
pairwise_map [] (y ∷ ys) f h = absurd h
pairwise_map (x ∷ xs) [] f h = absurd h
pairwise_map (x ∷ xs) (y ∷ ys) f (a, h) = (f x y a, pairwise_map xs ys f h)

pub pairwise_sym : {A B : Type 0} {R : A → B → Type 0} {S : B → A → Type 0} (xs : List A) (ys : List B) → ((x : A) (y : B) → R x y → S y x) → Pairwise R xs ys → Pairwise S ys xs
pairwise_sym [] [] f h = tt
pairwise_sym [] (y ∷ ys) f h = absurd h
pairwise_sym (x ∷ xs) [] f h = absurd h
pairwise_sym (x ∷ xs) (y ∷ ys) f (a, h) = (f x y a, pairwise_sym xs ys f h)

module _ {A B : Type 0} (R : A → B → Type 0) where
  pub pairwise_length : (xs : List A) (ys : List B) → Pairwise R xs ys → length xs ≡ length ys
  pairwise_length [] [] h = refl
  pairwise_length [] (y ∷ ys) h = absurd h
  pairwise_length (x ∷ xs) [] h = absurd h
  pairwise_length (x ∷ xs) (y ∷ ys) h = ap suc (pairwise_length xs ys h.1)

  pub pairwise_snoc : (xs : List A) (ys : List B) (x : A) (y : B) → Pairwise R xs ys → R x y → Pairwise R (xs ++ (x ∷ [])) (ys ++ (y ∷ []))
  pairwise_snoc [] [] x y h r = (r, tt)
  pairwise_snoc [] (v ∷ ys) x y h r = absurd h
  pairwise_snoc (u ∷ xs) [] x y h r = absurd h
  pairwise_snoc (u ∷ xs) (v ∷ ys) x y h r = (h.0, pairwise_snoc xs ys x y h.1 r)

  pub pairwise_take : (n : ℕ) (xs : List A) (ys : List B) → Pairwise R xs ys → Pairwise R (take n xs) (take n ys)
  pairwise_take zero xs ys h = tt
  pairwise_take (suc n) [] [] h = tt
  pairwise_take (suc n) [] (y ∷ ys) h = absurd h
  pairwise_take (suc n) (x ∷ xs) [] h = absurd h
  pairwise_take (suc n) (x ∷ xs) (y ∷ ys) h = (h.0, pairwise_take n xs ys h.1)

  -- at the same position stands the other
  pub pairwise_at : (xs : List A) (ys : List B) → Pairwise R xs ys → (i : ℕ) (x : A) → At xs i x → (y : B) × At ys i y × R x y
  pairwise_at [] ys h i x a = absurd (none-ne-some x a)
  pairwise_at (u ∷ xs) [] h i x a = absurd h
  pairwise_at (u ∷ xs) (v ∷ ys) h zero x a = (v, refl, subst (λ (z : A). R z v) (some-injective u x a) h.0)
  pairwise_at (u ∷ xs) (v ∷ ys) h (suc i) x a = pairwise_at xs ys h.1 i x a

  pub pairwise_mem : (xs : List A) (ys : List B) → Pairwise R xs ys → (x : A) → Memᴰ x xs → (y : B) × Memᴰ y ys × R x y
  pairwise_mem xs ys h x m =
      let (i, a) = mem_at xs x m in
      let (y, b, r) = pairwise_at xs ys h i x a in
      (y, at_mem ys i y b, r)
