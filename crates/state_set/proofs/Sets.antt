-- The members of what the functions of the crate make.
use mathlib.Core.Path.{◌≡◌, refl, sym, ap, ◌∙◌}
use mathlib.Core.Bool.{Bool, true, false, not, cond, ◌&&◌, ◌||◌, and-true}
use mathlib.Core.Logic.{◌⊎◌, inl, inr}
use mathlib.Core.Option.{some, none}
use Prim.Native.Nat.{ℕ, zero, suc, ◌+◌, ◌-◌, ◌*◌, ◌/◌, ◌%◌, ◌^◌, ◌<◌, ◌≤◌}
use native.Mathlib.Nat.{mod-lt, zero-lt-suc, one-mul}
use native.Mathlib.Decide.{ℕ_discrete, dec_lt}
use native.Mathlib.Omega.{arith}
use borrow.Author.Tests.{eq-eqb, ne_eqb, lt-ltb, le-ltb}
use lib.Pow.{shl_exact}
use lib.Bits.{bit_and, bit_or}
use lib.Count.{count_trailing_zeros}
use lib.Dec.{eqb, ltb, lit<}
use Rattle.model.specs.Lists.{lowest}
use Rattle.model.proofs.Laws.{none_lowest, lowest_is, below_suc}
use Rattle.state_set.specs.Member.{bit, member, word_at}
use Rattle.state_set.specs.declared.StateSet.{StateSet}
use Rattle.state_set.proofs.Digits.{zero_bit, and_bit, or_bit, not_bit, power_bit, ones_bit, trailing_lt, trailing_hit, trailing_below, less_bit}

abbrev pub four : ℕ → ℕ → ℕ → ℕ → StateSet
four a b c d = record { w0 = a; w1 = b; w2 = c; w3 = d }

-- a set whose words are f's first four, where f has no more
module _ (f : ℕ → ℕ) (ends : (k : ℕ) → f (suc (suc (suc (suc k)))) ≡ 0) where
  words : (k : ℕ) → word_at (four (f 0) (f 1) (f 2) (f 3)) k ≡ f k
  unfolding word_at
  words zero = refl
  words (suc zero) = refl
  words (suc (suc zero)) = refl
  words (suc (suc (suc zero))) = refl
  words (suc (suc (suc (suc k)))) = sym (ends k)

  members : (i : ℕ) → member (four (f 0) (f 1) (f 2) (f 3)) i ≡ bit (f (i / 64)) (i % 64)
  unfolding member
  members i = ap (λ (w : ℕ). bit w (i % 64)) (words (i / 64))

low : (i : ℕ) → i % 64 < 64
low i = mod-lt i (zero-lt-suc 63)

-- no number from 256 on is in a set
past : (s : StateSet) (k : ℕ) → word_at s (suc (suc (suc (suc k)))) ≡ 0
unfolding word_at
past s k = refl

pub no_member : (s : StateSet) (i : ℕ) → 256 ≤ i → member s i ≡ false
unfolding member
no_member s i l =
    let high : i / 64 ≡ suc (suc (suc (suc (i / 64 - 4)))) = omega arith in
    ap (λ (k : ℕ). bit (word_at s k) (i % 64)) high ∙ ap (λ (w : ℕ). bit w (i % 64)) (past s (i / 64 - 4)) ∙ zero_bit (i % 64)

-- ---- the constants
pub empty_member : (i : ℕ) → member (four 0 0 0 0) i ≡ false
empty_member i = members (λ k. 0) (λ k. refl) i ∙ zero_bit (i % 64)

-- a word with all its digits
abbrev pub full_word : ℕ
full_word = 18446744073709551615

abbrev pub full_set : StateSet
full_set = four full_word full_word full_word full_word

pub full_member : (i : ℕ) → member full_set i ≡ ltb i 256
full_member i = elim (dec_lt i 256) [
  | yes l ↦ at (lt-ltb (i / 64) 4 (omega arith)) ∙ ones_bit 64 (i % 64) (low i) ∙ sym (lt-ltb i 256 l)
  | no n ↦ at (le-ltb (i / 64) 4 (omega arith)) ∙ zero_bit (i % 64) ∙ sym (le-ltb i 256 (omega arith))
]
  where
    ones : Bool → ℕ
    ones t = cond t full_word 0

    at : {t : Bool} → ltb (i / 64) 4 ≡ t → member full_set i ≡ bit (ones t) (i % 64)
    at e =
        members (λ k. ones (ltb k 4)) (λ k. ap ones (le-ltb (suc (suc (suc (suc k)))) 4 (omega arith))) i
        ∙ ap (λ (t : Bool). bit (ones t) (i % 64)) e

-- ---- word by word
module _ (a b : StateSet) (i : ℕ) where
  pub meet_member : member (four (bit_and a.w0 b.w0) (bit_and a.w1 b.w1) (bit_and a.w2 b.w2) (bit_and a.w3 b.w3)) i
      ≡ (member a i && member b i)
  unfolding member word_at
  meet_member = members (λ k. bit_and (word_at a k) (word_at b k)) (λ k. refl) i ∙ and_bit (word_at a (i / 64)) (word_at b (i / 64)) (i % 64)

  pub join_member : member (four (bit_or a.w0 b.w0) (bit_or a.w1 b.w1) (bit_or a.w2 b.w2) (bit_or a.w3 b.w3)) i
      ≡ (member a i || member b i)
  unfolding member word_at
  join_member = members (λ k. bit_or (word_at a k) (word_at b k)) (λ k. refl) i ∙ or_bit (word_at a (i / 64)) (word_at b (i / 64)) (i % 64)

-- every word fits
pub record Fit (s : StateSet) : Type 0 where
  pub f0 : s.w0 < 2 ^ 64
  pub f1 : s.w1 < 2 ^ 64
  pub f2 : s.w2 < 2 ^ 64
  pub f3 : s.w3 < 2 ^ 64

word_fits : (s : StateSet) → Fit s → (k : ℕ) → word_at s k < 2 ^ 64
unfolding word_at
word_fits s h zero = h.f0
word_fits s h (suc zero) = h.f1
word_fits s h (suc (suc zero)) = h.f2
word_fits s h (suc (suc (suc zero))) = h.f3
word_fits s h (suc (suc (suc (suc k)))) = lit< tt

-- what `v & !w` is
abbrev less : ℕ → ℕ → ℕ
less v w = bit_and v ((2 ^ 64 - 1) - w)

-- `!` is the digits' complement only of words that fit
pub without_member : (a b : StateSet) (i : ℕ) → Fit b
    → member (four (less a.w0 b.w0) (less a.w1 b.w1) (less a.w2 b.w2) (less a.w3 b.w3)) i
    ≡ (member a i && not (member b i))
unfolding member word_at
without_member a b i h =
    members (λ k. less (word_at a k) (word_at b k)) (λ k. refl) i
    ∙ and_bit (word_at a (i / 64)) ((2 ^ 64 - 1) - word_at b (i / 64)) (i % 64)
    ∙ ap (λ (t : Bool). bit (word_at a (i / 64)) (i % 64) && t) (not_bit 64 (word_at b (i / 64)) (i % 64) (word_fits b h (i / 64)) (low i))

-- ---- one state
-- two tests that pass together are the same test
eqb_iff : (a b c d : ℕ) → (a ≡ b → c ≡ d) → (c ≡ d → a ≡ b) → eqb a b ≡ eqb c d
eqb_iff a b c d f g = elim (ℕ_discrete a b) [
  | yes p ↦ eq-eqb a b p ∙ sym (eq-eqb c d (f p))
  | no p ↦ ne_eqb a b p ∙ sym (ne_eqb c d (λ h. p (g h)))
]

-- what the code shifts for state x
abbrev pub shifted : ℕ → ℕ
shifted x = (1 * 2 ^ (x % 64)) % 2 ^ 64

shifted_is : (x : ℕ) → shifted x ≡ 2 ^ (x % 64)
shifted_is x = shl_exact 1 (x % 64) 64 (lit< tt) (omega (arith, low x)) ∙ one-mul (2 ^ (x % 64))

-- its digits, in the word of state x
pub shifted_bit : (x i : ℕ) → i / 64 ≡ x / 64 → bit (shifted x) (i % 64) ≡ eqb i x
shifted_bit x i d =
    ap (λ (w : ℕ). bit w (i % 64)) (shifted_is x) ∙ power_bit (x % 64) (i % 64)
    ∙ eqb_iff (i % 64) (x % 64) i x (λ h. omega arith) (λ h. omega arith)

-- word q is v, and the others are 0
abbrev word_of : ℕ → ℕ → ℕ → ℕ
word_of q v k = cond (eqb k q) v 0

abbrev one_word : ℕ → ℕ → StateSet
one_word q v = four (word_of q v 0) (word_of q v 1) (word_of q v 2) (word_of q v 3)

-- a state x, whose word is q
pub single_member : (q x : ℕ) → q < 4 → x / 64 ≡ q → (i : ℕ) → member (one_word q (shifted x)) i ≡ eqb i x
single_member q x l d i =
    members (word_of q (shifted x)) (λ k. ap pick (ne_eqb (suc (suc (suc (suc k)))) q (λ e. omega arith))) i ∙ go (ℕ_discrete (i / 64) q)
  where
    pick : Bool → ℕ
    pick t = cond t (shifted x) 0

    go : Dec (i / 64 ≡ q) → bit (pick (eqb (i / 64) q)) (i % 64) ≡ eqb i x
    go (yes p) =
        ap (λ (t : Bool). bit (pick t) (i % 64)) (eq-eqb (i / 64) q p) ∙ shifted_bit x i (p ∙ sym d)
    go (no p) =
        ap (λ (t : Bool). bit (pick t) (i % 64)) (ne_eqb (i / 64) q p) ∙ zero_bit (i % 64) ∙ sym (ne_eqb i x (λ h. p (omega arith)))

-- ---- the lowest state
-- the words before word q are 0
abbrev Blank : StateSet → ℕ → Type 0
Blank s q = (k : ℕ) → k < q → word_at s k ≡ 0

module _ (s : StateSet) where
  blank_next : (q : ℕ) → Blank s q → word_at s q ≡ 0 → Blank s (suc q)
  blank_next q b e k l = go (below_suc k q l)
    where
      go : (k < q) ⊎ (k ≡ q) → word_at s k ≡ 0
      go (inl m) = b k m
      go (inr p) = ap (word_at s) p ∙ e

  pub blank_0 : Blank s 0
  blank_0 k l = absurd (omega arith)

  pub blank_1 : s.w0 ≡ 0 → Blank s 1
  unfolding word_at
  blank_1 a = blank_next 0 blank_0 a

  pub blank_2 : s.w0 ≡ 0 → s.w1 ≡ 0 → Blank s 2
  unfolding word_at
  blank_2 a b = blank_next 1 (blank_1 a) b

  pub blank_3 : s.w0 ≡ 0 → s.w1 ≡ 0 → s.w2 ≡ 0 → Blank s 3
  unfolding word_at
  blank_3 a b c = blank_next 2 (blank_2 a b) c

  -- word q is the first that is not 0, and r its lowest state
  pub lowest_at : (q r w : ℕ) → q < 4 → word_at s q ≡ w → w < 2 ^ 64 → 0 < w → Blank s q → r ≡ q * 64 + count_trailing_zeros 64 w
      → some r ≡ lowest (member s) 256
  unfolding member
  lowest_at q r w l e h p z g = sym (lowest_is (member s) 256 r (omega (arith, t_lt)) (rw hit tt) (λ j b. rw (below j b) tt))
    where
      t_lt : count_trailing_zeros 64 w < 64
      t_lt = trailing_lt 64 w h p

      at : (i : ℕ) → i / 64 ≡ q → bit (word_at s (i / 64)) (i % 64) ≡ bit w (i % 64)
      at i d = ap (λ (k : ℕ). bit (word_at s k) (i % 64)) d ∙ ap (λ (v : ℕ). bit v (i % 64)) e

      hit : bit (word_at s (r / 64)) (r % 64) ≡ true
      hit =
          let d : r / 64 ≡ q = omega (arith, t_lt) in
          let m : r % 64 ≡ count_trailing_zeros 64 w = omega (arith, t_lt) in
          at r d ∙ ap (bit w) m ∙ trailing_hit 64 w h p

      below : (j : ℕ) → j < r → bit (word_at s (j / 64)) (j % 64) ≡ false
      below j b = elim (dec_lt (j / 64) q) [
        | yes lower ↦ ap (λ (v : ℕ). bit v (j % 64)) (z (j / 64) lower) ∙ zero_bit (j % 64)
        | no m ↦ at j (omega (arith, t_lt)) ∙ trailing_below 64 w (j % 64) (omega (arith, t_lt))
      ]

  -- word q, which is w, without its lowest digit
  abbrev word_less : ℕ → ℕ → ℕ → ℕ
  word_less q w k = cond (eqb k q) (bit_and w (w - 1)) (word_at s k)

  pub without_lowest_at : (q w : ℕ) → q < 4 → word_at s q ≡ w → w < 2 ^ 64 → 0 < w → Blank s q → (r : ℕ) → some r ≡ lowest (member s) 256
      → (i : ℕ) → member (four (word_less q w 0) (word_less q w 1) (word_less q w 2) (word_less q w 3)) i ≡ (member s i && not (eqb i r))
  unfolding member word_at
  without_lowest_at q w l e h p z r g i =
      members (word_less q w) (λ k. ap (λ (t : Bool). cond t (bit_and w (w - 1)) 0) (ne_eqb (suc (suc (suc (suc k)))) q (λ d. omega arith))) i
      ∙ go (ℕ_discrete (i / 64) q)
    where
      t_lt : count_trailing_zeros 64 w < 64
      t_lt = trailing_lt 64 w h p

      r_is : r ≡ q * 64 + count_trailing_zeros 64 w
      r_is = let found = lowest_at q (q * 64 + count_trailing_zeros 64 w) w l e h p z refl in cc (g, found)

      go : Dec (i / 64 ≡ q) → bit (word_less q w (i / 64)) (i % 64) ≡ (bit (word_at s (i / 64)) (i % 64) && not (eqb i r))
      go (yes d) =
          let same : eqb (i % 64) (count_trailing_zeros 64 w) ≡ eqb i r =
          eqb_iff (i % 64) (count_trailing_zeros 64 w) i r (λ x. omega (arith, r_is)) (λ x. omega (arith, r_is, t_lt)) in
          rw (eq-eqb (i / 64) q d, and_bit w (w - 1) (i % 64), less_bit 64 w (i % 64) h p, same, d, e)
      go (no d) =
          let other : eqb i r ≡ false = ne_eqb i r (λ x. d (omega (arith, r_is, t_lt))) in
          rw (ne_eqb (i / 64) q d, other) (sym (and-true (bit (word_at s (i / 64)) (i % 64))))

  pub lowest_missing : s.w0 ≡ 0 → s.w1 ≡ 0 → s.w2 ≡ 0 → s.w3 ≡ 0 → none ≡ lowest (member s) 256
  unfolding member word_at
  lowest_missing a b c d = sym (none_lowest (member s) 256 (λ j l. rw (blank_next 3 (blank_3 a b c) d (j / 64) (omega arith), zero_bit) tt))
