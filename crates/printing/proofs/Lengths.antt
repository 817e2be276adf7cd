-- How many digits a number has.
use Prim.Native.Nat.{ℕ, ◌+◌, ◌/◌, ◌%◌, ◌≤◌, ◌<◌}
use native.Mathlib.Omega.{arith}
use mathlib.Core.Logic.{◌⊎◌, inl, inr}
use mathlib.Core.Bool.{Bool, true, false, cond}
use mathlib.Core.List.{List, ◌∷◌, []}
use lib.Dec.{ltb}
use lib.ListN.{length, length-append}
use Rattle.model.specs.Bytes.{numeral_up_to, numeral}
use Rattle.model.proofs.Laws.{order}
use Rattle.writers.proofs.Refusals.{numeral_short, numeral_longer}

-- any number has a digit
either_some : (b : Bool) (x y : List ℕ) → 1 ≤ length x → 1 ≤ length y → 1 ≤ length (cond b x y)
either_some true x y p q = p
either_some false x y p q = q

pub numeral_some : (n : ℕ) → 1 ≤ length (numeral n)
unfolding numeral numeral_up_to
numeral_some n = either_some (ltb n 10) _ _ (omega arith) (omega (arith, length-append (numeral_up_to 18 (n / 10)) ((48 + n % 10) ∷ [])))

pub numeral_two : (n : ℕ) → n < 100 → length (numeral n) ≤ 2
numeral_two n h = go (order n 10)
  where
    go : (n < 10) ⊎ (10 ≤ n) → length (numeral n) ≤ 2
    go (inl l) = omega (arith, numeral_short l)
    go (inr l) = omega (arith, numeral_longer {n = n} l (omega arith), numeral_short {n = n / 10} (omega arith))
