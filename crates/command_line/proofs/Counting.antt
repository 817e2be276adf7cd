-- Numerals: what the test of the digits says, what makes a numeral, and the number that the digits write, as far as a bound.
use Prim.Native.Nat.{ℕ, suc, ◌+◌, ◌-◌, ◌*◌, ◌<◌, ◌≤◌, min}
use native.Mathlib.Numerals.{add-one}
use native.Mathlib.Omega.{arith}
use mathlib.Core.Path.{◌≡◌, refl, ap, sym, ◌∙◌}
use mathlib.Core.Logic.{◌⊎◌, inl, inr}
use mathlib.Core.Bool.{Bool, true, not, ◌&&◌, ◌||◌, or-true}
use mathlib.Core.List.{List, [], ◌∷◌}
use borrow.Author.Tests.{le-leb, eq-eqb, ne_eqb}
use lib.Dec.{eqb}
use lib.ListN.{length, get_or, drop, drop_of_length-le}
use lib.Seq.{drop-cons}
use Rattle.std.specs.List.{list_all}
use Rattle.std.specs.Char.{is_ascii_digit}
use Rattle.model.specs.Lists.{every}
use Rattle.model.specs.Bytes.{is_digit, decimal_from, decimal}
use Rattle.model.proofs.Laws.{order}
use Rattle.command_line.specs.Words.{is_numeral}

-- ---- the digits

-- what the chain over the bytes tests
pub digits_all : (w : List ℕ) → list_all is_ascii_digit w ≡ every is_digit w
unfolding every is_digit
digits_all [] = refl
digits_all (b ∷ w) = ap (λ (t : Bool). is_ascii_digit b && t) (digits_all w)

-- ---- the numeral

module _ (w : List ℕ) (any : length w ≡ 0 → ⊥) (plain : 1 < length w → get_or w 0 0 ≡ 48 → ⊥) where
  -- one byte, or more that do not begin with 0
  first_fine : (eqb (length w) 1 || not (eqb (get_or w 0 0) 48)) ≡ true
  first_fine = go (order 1 (length w))
    where
      go : (1 < length w) ⊎ (length w ≤ 1) → (eqb (length w) 1 || not (eqb (get_or w 0 0) 48)) ≡ true
      go (inl l) = rw (ne_eqb (get_or w 0 0) 48 (plain l), or-true)
      go (inr l) = rw (eq-eqb (length w) 1 (omega (arith, any)))

  pub is_numeral_lem : every is_digit w ≡ true → true ≡ is_numeral w
  unfolding is_numeral
  is_numeral_lem d = rw (first_fine, d, le-leb 1 (length w) (omega (arith, any)))

-- ---- the number

-- a number that is cut down to the bound before further digits comes to the same as one that is cut down after them
capped : (most m : ℕ) (w : List ℕ) → min (decimal_from (min m most) w) most ≡ min (decimal_from m w) most
capped most m [] = omega arith
capped most m (b ∷ w) =
    let d = b - 48 in
    let z : min (min m most * 10 + d) most ≡ min (m * 10 + d) most = once (order m most) in
    sym (capped most (min m most * 10 + d) w) ∙ rw z (capped most (m * 10 + d) w)
  where
    once : (m < most) ⊎ (most ≤ m) → min (min m most * 10 + (b - 48)) most ≡ min (m * 10 + (b - 48)) most
    once (inl l) = let q : min m most ≡ m = omega arith in rw q
    once (inr l) = let q : min m most ≡ most = omega arith in rw q (omega arith)

-- n is the number of the digits before i, as far as the bound
pub record Counted (w : List ℕ) (most n i : ℕ) : Type 0 where
  pub left : min (decimal_from n (drop i w)) most ≡ min (decimal w) most
  pub within : n ≤ most

pub counted_start : {w : List ℕ} {most : ℕ} → Counted w most 0 0
counted_start = record { left = refl; within = omega arith }

module _ {w : List ℕ} {most n i : ℕ} (c : Counted w most n i) where
  pub counted_more : i < length w → {r : ℕ} → r ≡ min (n * 10 + (get_or w i 0 - 48)) most → Counted w most r (i + 1)
  counted_more h {r} q =
      record {
        left =
            rw (q, add-one i)
            (capped most (n * 10 + (get_or w i 0 - 48)) (drop (suc i) w)
            ∙ ap (λ (l : List ℕ). min (decimal_from n l) most) (sym (drop-cons w i 0 h))
            ∙ c.left);
        within = omega arith;
      }

  pub counted_end : length w ≤ i → n ≡ min (decimal w) most
  counted_end h =
      let z : min n most ≡ n = omega (arith, c.within) in
      sym z ∙ ap (λ (l : List ℕ). min (decimal_from n l) most) (sym (drop_of_length-le w h)) ∙ c.left
