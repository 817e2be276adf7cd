-- The numeral of any number, digit by digit, and how much room the refusal line asks for.
use Prim.Native.Nat.{ℕ, zero, suc, ◌+◌, ◌/◌, ◌%◌, ◌^◌, ◌≤◌, ◌<◌}
use native.Mathlib.Omega.{arith}
use mathlib.Core.Path.{◌≡◌, ap, ◌∙◌}
use mathlib.Core.Bool.{Bool, true, false, cond}
use mathlib.Core.List.{List, [], ◌∷◌, ◌++◌}
use lib.Dec.{ltb}
use lib.ListN.{length, set, length-append}
use Rattle.model.specs.Refusal.{refuse}
use Rattle.model.specs.Bytes.{bytes, numeral_up_to, numeral}
use Rattle.model.specs.Services.{written_refusal}
use Rattle.model.proofs.Numerals.{read_back}
use Rattle.writers.specs.Written.{Writes}
use Rattle.writers.proofs.Writing.{byte_stored, writes_append, writes_length, spaced}
use Rattle.writers.proofs.Figures.{figure_most}

module _ {n : ℕ} (h : n < 10) where
  pub numeral_short : length (numeral n) ≡ 1
  numeral_short = ap length (read_back.digit n h)

  pub numeral_stored : {a at : ℕ} {out : List ℕ} → a ≡ 48 + n → Writes (numeral n) at out (at + 1) (set out at a)
  numeral_stored e = rw (read_back.digit n h) (byte_stored e)

-- a number of more digits than one, after the digits before the last
module _ {n : ℕ} (l : 10 ≤ n) (h : n < 2 ^ 64) where
  by_last : numeral n ≡ numeral (n / 10) ++ ((48 + n % 10) ∷ [])
  by_last = read_back.last_digit n l (omega arith)

  pub numeral_longer : length (numeral n) ≡ length (numeral (n / 10)) + 1
  numeral_longer = ap length by_last ∙ length-append (numeral (n / 10)) ((48 + n % 10) ∷ [])

  module _ {at i : ℕ} {out mid : List ℕ} (w : Writes (numeral (n / 10)) at out i mid) where
    pub numeral_room : at + length (numeral n) ≤ length out → i < length mid
    numeral_room r = omega (arith, r, numeral_longer, w.after, writes_length w)

    pub numeral_added : {a : ℕ} → a ≡ 48 + n % 10 → Writes (numeral n) at out (i + 1) (set mid i a)
    numeral_added e = rw by_last (writes_append w (byte_stored e))

-- a numeral has 20 digits at most
either_most : (b : Bool) {m : ℕ} (x y : List ℕ) → length x ≤ m → length y ≤ m → length (cond b x y) ≤ m
either_most true x y p q = p
either_most false x y p q = q

digits_most : (k n : ℕ) → length (numeral_up_to k n) ≤ k + 1
unfolding numeral_up_to
digits_most zero n = omega arith
digits_most (suc k) n =
    either_most (ltb n 10) _ _ (omega arith)
    (omega (arith, digits_most k (n / 10), length-append (numeral_up_to k (n / 10)) ((48 + n % 10) ∷ [])))

pub numeral_most : (n : ℕ) → length (numeral n) ≤ 20
unfolding numeral
numeral_most n = digits_most 19 n

-- and 3 up to 999
pub numeral_three : (n : ℕ) → n ≤ 999 → length (numeral n) ≤ 3
numeral_three n h = omega (arith, ap length (read_back.small n h), figure_most n)

pub length_refusal : (number detail second : ℕ)
    → length (written_refusal (refuse number detail second)) ≡ 13 + length (numeral number) + length (numeral detail) + length (numeral second)
unfolding written_refusal
length_refusal number detail second = spaced (bytes "(refused ") (numeral number) (bytes " ") (numeral detail) (bytes " ") (numeral second) (bytes ")\n")

-- so the line of any refusal fits into 80 bytes
pub refusal_fits : (number detail second : ℕ) → length (written_refusal (refuse number detail second)) ≤ 80
refusal_fits number detail second =
    omega (arith, length_refusal number detail second, numeral_most number, numeral_most detail, numeral_most second)
