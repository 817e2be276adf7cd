-- The figure of a number: how long it is, and its digits stored one after another.
use Prim.Native.Nat.{ℕ, ◌+◌, ◌-◌, ◌*◌, ◌/◌, ◌%◌, ◌≤◌, ◌<◌}
use native.Mathlib.Nat.{add-mul}
use native.Mathlib.Omega.{arith}
use mathlib.Core.Path.{◌≡◌, ap, subst}
use mathlib.Core.Logic.{◌⊎◌, inl, inr}
use mathlib.Core.List.{List}
use lib.ListN.{length, set}
use lib.Seq.{set-set}
use Rattle.model.specs.Bytes.{digits}
use Rattle.model.proofs.Laws.{order}
use Rattle.model.proofs.Words.{digits_one, digits_two, digits_three}
use Rattle.writers.specs.Written.{Writes}
use Rattle.writers.proofs.Writing.{byte_stored, writes_append}

module _ (n : ℕ) where
  pub length_one : n < 10 → length (digits n) ≡ 1
  length_one h = ap length (digits_one n h)

  pub length_two : 10 ≤ n → n < 100 → length (digits n) ≡ 2
  length_two l h = ap length (digits_two n l h)

  pub length_three : 100 ≤ n → length (digits n) ≡ 3
  length_three h = ap length (digits_three n h)

  pub figure_most : length (digits n) ≤ 3
  figure_most = go (order n 10) (order n 100)
    where
      go : (n < 10) ⊎ (10 ≤ n) → (n < 100) ⊎ (100 ≤ n) → length (digits n) ≤ 3
      go (inl h) d = omega (arith, length_one h)
      go (inr l) (inl h) = omega (arith, length_two l h)
      go (inr l) (inr h) = omega (arith, length_three h)

  -- where the digit of the tens stands
  pub tens_first : n < 100 → 0 ≡ length (digits n) - 2
  tens_first h = go (order n 10)
    where
      go : (n < 10) ⊎ (10 ≤ n) → 0 ≡ length (digits n) - 2
      go (inl l) = omega (arith, length_one l)
      go (inr l) = omega (arith, length_two l h)

  pub tens_second : 100 ≤ n → 1 ≡ length (digits n) - 2
  tens_second h = omega (arith, length_three h)

-- one unit more is counted off
pub counted_more : {n : ℕ} (count unit rest : ℕ) → n ≡ count * unit + rest → unit ≤ rest → n ≡ (count + 1) * unit + (rest - unit)
counted_more count unit rest e h = omega (arith, add-mul count 1 unit)

-- the digits of a figure stored from the front, where a leading zero is overwritten
module _ (n : ℕ) (out : List ℕ) (at last middle a b d : ℕ) (k : last + 1 ≡ length (digits n)) (j : middle ≡ length (digits n) - 2) where
  abbrev ThreeStored : Type 0
  ThreeStored = Writes (digits n) at out (at + last + 1) (set (set (set out at a) (at + middle) b) (at + last) d)

  three_stored : a ≡ 48 + n / 100 → b ≡ 48 + n / 10 % 10 → d ≡ 48 + n % 10 → ThreeStored
  three_stored p q r = go (order n 10) (order n 100)
    where
      one : n < 10 → ThreeStored
      one h =
          let y : at + middle ≡ at = omega (arith, length_one n h) in
          let z : at + last ≡ at = omega (arith, length_one n h) in
          let v : d ≡ 48 + n = omega arith in
          rw (y, z, set-set out at a b, set-set out at b d, digits_one n h) (byte_stored v)

      two : 10 ≤ n → n < 100 → ThreeStored
      two l h =
          let y : at + middle ≡ at = omega (arith, length_two n l h) in
          let z : at + last ≡ at + 1 = omega (arith, length_two n l h) in
          let v : b ≡ 48 + n / 10 = omega arith in
          rw (y, z, set-set out at a b, digits_two n l h) (writes_append (byte_stored v) (byte_stored r))

      go : (n < 10) ⊎ (10 ≤ n) → (n < 100) ⊎ (100 ≤ n) → ThreeStored
      go (inl h) w = one h
      go (inr l) (inl h) = two l h
      go (inr l) (inr h) =
          let y : at + middle ≡ at + 1 = omega (arith, length_three n h) in
          let z : at + last ≡ at + 1 + 1 = omega (arith, length_three n h) in
          rw (y, z, digits_three n h) (writes_append (byte_stored p) (writes_append (byte_stored q) (byte_stored r)))

  -- from what was counted off by hundreds, and the rest by tens
  pub figure_stored : (h r t o : ℕ) → (n ≡ h * 100 + r) × (r < 100) → (r ≡ t * 10 + o) × (o < 10) → a ≡ 48 + h → b ≡ 48 + t → d ≡ 48 + o → ThreeStored
  figure_stored h r t o p q x y z = three_stored (omega (arith, p.0, p.1)) (omega (arith, p.0, p.1, q.0, q.1)) (omega (arith, p.0, p.1, q.0, q.1))

-- a number and its copy have one figure
module _ {n r : ℕ} (e : r ≡ n) where
  pub length_same : length (digits r) ≡ length (digits n)
  length_same = ap (λ x. length (digits x)) e

  pub writes_same : {at next : ℕ} {out left : List ℕ} → Writes (digits r) at out next left → Writes (digits n) at out next left
  writes_same {at} {next} {out} {left} w = subst (λ x. Writes (digits x) at out next left) e w
