-- A set of machines as a number: its digits are the marks, so that a number stands for one set only.
use Prim.Native.Nat.{ℕ, zero, suc, ◌+◌, ◌*◌, ◌/◌, ◌%◌}
use native.Mathlib.Omega.{arith}
use mathlib.Core.Path.{◌≡◌, sym, ap, ◌∙◌}
use mathlib.Core.Bool.{Bool, true, false, cond}
use mathlib.Core.List.{List, [], ◌∷◌}
use lib.Dec.{eqb}
use lib.ListN.{length, get_or}
use lib.Seq.{ext_get_or}
use Rattle.state_set.specs.Member.{bit}
use Rattle.state_set.proofs.Digits.{bit_zero, bit_suc, zero_bit}
use Rattle.irredundant.specs.Kept.{set_number}

-- a mark as a digit
abbrev digit : Bool → ℕ
digit b = cond b 1 0

-- the lowest digit, and the number that the others make
low_digit : (b : Bool) (n : ℕ) → eqb ((digit b + 2 * n) % 2) 1 ≡ b
low_digit true n = let q : (1 + 2 * n) % 2 ≡ 1 = omega arith in rw q
low_digit false n = let q : (0 + 2 * n) % 2 ≡ 0 = omega arith in rw q

high_digits : (b : Bool) (n : ℕ) → (digit b + 2 * n) / 2 ≡ n
high_digits true n = omega arith
high_digits false n = omega arith

pub set_number_bit : (marks : List Bool) (i : ℕ) → bit (set_number marks) i ≡ get_or marks i false
unfolding set_number
set_number_bit [] i = zero_bit i
set_number_bit (b ∷ marks) zero = bit_zero (digit b + 2 * set_number marks) ∙ low_digit b (set_number marks)
set_number_bit (b ∷ marks) (suc i) =
    bit_suc (digit b + 2 * set_number marks) i ∙ ap (λ (n : ℕ). bit n i) (high_digits b (set_number marks)) ∙ set_number_bit marks i

pub set_number_injective : (a b : List Bool) → length a ≡ length b → set_number a ≡ set_number b → a ≡ b
set_number_injective a b l q = ext_get_or false a b l (λ i _. sym (set_number_bit a i) ∙ ap (λ (n : ℕ). bit n i) q ∙ set_number_bit b i)
