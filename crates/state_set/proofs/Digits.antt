-- The digits of what `&`, `|`, `!`, `<<` and `trailing_zeros` give.
use mathlib.Core.Path.{◌≡◌, refl, sym, ap, ◌∙◌, subst}
use mathlib.Core.Logic.{◌⊎◌, inl, inr, ⊎_elim}
use mathlib.Core.Bool.{Bool, true, false, not, ◌&&◌, ◌||◌}
use Prim.Native.Nat.{ℕ, zero, suc, ◌-◌, ◌*◌, ◌/◌, ◌%◌, ◌^◌, ◌<◌, suc-le-suc}
use native.Mathlib.Nat.{mod-lt, div-one, pow-suc, zero-lt-suc, le_of_suc-le-suc, not-suc-le-zero, zero-div, sub-zero, eq-zero-or-pos}
use native.Mathlib.Numerals.{one-add}
use native.Mathlib.Omega.{arith}
use lib.Bits.{bit_and, bit_or, and_shr, or_shr, and_mod, or_mod}
use lib.Count.{count_trailing_zeros, under}
use lib.Dec.{eqb, eqb-zero-suc, eqb-suc-zero, eqb-suc-suc}
use lib.Pow.{shr-shr, pow_pos}
use Rattle.state_set.specs.Member.{bit}

-- ---- digit 0, and the digits above it
pub bit_zero : (w : ℕ) → bit w 0 ≡ eqb (w % 2) 1
unfolding bit
bit_zero w = ap (λ (x : ℕ). eqb (x % 2) 1) (div-one w)

pub bit_suc : (w i : ℕ) → bit w (suc i) ≡ bit (w / 2) i
unfolding bit
bit_suc w i = ap (λ (x : ℕ). eqb (x % 2) 1) (sym (shr-shr w 1 i ∙ ap (λ (k : ℕ). w / 2 ^ k) (one-add i)))

pub zero_bit : (i : ℕ) → bit 0 i ≡ false
unfolding bit
zero_bit i = ap (λ (x : ℕ). eqb (x % 2) 1) (zero-div (2 ^ i))

-- ---- `&` and `|`
and_two : (x y : ℕ) → x < 2 → y < 2 → eqb (bit_and x y) 1 ≡ (eqb x 1 && eqb y 1)
and_two zero y hx hy = refl
and_two (suc zero) zero hx hy = refl
and_two (suc zero) (suc zero) hx hy = refl
and_two (suc zero) (suc (suc y)) hx hy = absurd (not-suc-le-zero (le_of_suc-le-suc (le_of_suc-le-suc hy)))
and_two (suc (suc x)) y hx hy = absurd (not-suc-le-zero (le_of_suc-le-suc (le_of_suc-le-suc hx)))

or_two : (x y : ℕ) → x < 2 → y < 2 → eqb (bit_or x y) 1 ≡ (eqb x 1 || eqb y 1)
or_two zero y hx hy = refl
or_two (suc zero) zero hx hy = refl
or_two (suc zero) (suc zero) hx hy = refl
or_two (suc zero) (suc (suc y)) hx hy = absurd (not-suc-le-zero (le_of_suc-le-suc (le_of_suc-le-suc hy)))
or_two (suc (suc x)) y hx hy = absurd (not-suc-le-zero (le_of_suc-le-suc (le_of_suc-le-suc hx)))

pub and_bit : (a b i : ℕ) → bit (bit_and a b) i ≡ (bit a i && bit b i)
unfolding bit
and_bit a b i =
    ap (λ (x : ℕ). eqb (x % 2) 1) (and_shr a b i) ∙ ap (λ (x : ℕ). eqb x 1) (and_mod (a / 2 ^ i) (b / 2 ^ i) 1)
    ∙ and_two (a / 2 ^ i % 2) (b / 2 ^ i % 2) (mod-lt (a / 2 ^ i) (zero-lt-suc 1)) (mod-lt (b / 2 ^ i) (zero-lt-suc 1))

pub or_bit : (a b i : ℕ) → bit (bit_or a b) i ≡ (bit a i || bit b i)
unfolding bit
or_bit a b i =
    ap (λ (x : ℕ). eqb (x % 2) 1) (or_shr a b i) ∙ ap (λ (x : ℕ). eqb x 1) (or_mod (a / 2 ^ i) (b / 2 ^ i) 1)
    ∙ or_two (a / 2 ^ i % 2) (b / 2 ^ i % 2) (mod-lt (a / 2 ^ i) (zero-lt-suc 1)) (mod-lt (b / 2 ^ i) (zero-lt-suc 1))

-- ---- `!`, at a width of k digits
not_two : (x : ℕ) → x < 2 → eqb (1 - x) 1 ≡ not (eqb x 1)
not_two zero hx = refl
not_two (suc zero) hx = refl
not_two (suc (suc x)) hx = absurd (not-suc-le-zero (le_of_suc-le-suc (le_of_suc-le-suc hx)))

not_low : (p a : ℕ) → a < p * 2 → ((p * 2 - 1) - a) % 2 ≡ 1 - a % 2
not_low p a h = omega arith

not_high : (p a : ℕ) → a < p * 2 → ((p * 2 - 1) - a) / 2 ≡ (p - 1) - a / 2
not_high p a h = omega arith

half_below : (p a : ℕ) → a < p * 2 → a / 2 < p
half_below p a h = omega arith

pub not_bit : (k a i : ℕ) → a < 2 ^ k → i < k → bit ((2 ^ k - 1) - a) i ≡ not (bit a i)
not_bit zero a i h l = absurd (not-suc-le-zero l)
not_bit (suc k) a zero h l =
    let h' : a < 2 ^ k * 2 = subst (λ (x : ℕ). a < x) (pow-suc 2 k) h in
    ap (λ (x : ℕ). bit ((x - 1) - a) 0) (pow-suc 2 k) ∙ bit_zero ((2 ^ k * 2 - 1) - a)
    ∙ ap (λ (x : ℕ). eqb x 1) (not_low (2 ^ k) a h') ∙ not_two (a % 2) (mod-lt a (zero-lt-suc 1)) ∙ ap not (sym (bit_zero a))
not_bit (suc k) a (suc i) h l =
    let h' : a < 2 ^ k * 2 = subst (λ (x : ℕ). a < x) (pow-suc 2 k) h in
    ap (λ (x : ℕ). bit ((x - 1) - a) (suc i)) (pow-suc 2 k) ∙ bit_suc ((2 ^ k * 2 - 1) - a) i
    ∙ ap (λ (x : ℕ). bit x i) (not_high (2 ^ k) a h')
    ∙ not_bit k (a / 2) i (half_below (2 ^ k) a h') (le_of_suc-le-suc l) ∙ ap not (sym (bit_suc a i))

-- ---- a power of two, and all digits set
pub power_bit : (s i : ℕ) → bit (2 ^ s) i ≡ eqb i s
unfolding bit
power_bit zero zero = refl
power_bit zero (suc i) = bit_suc 1 i ∙ zero_bit i ∙ sym (eqb-suc-zero i)
power_bit (suc s) zero =
    bit_zero (2 ^ suc s) ∙ ap (λ (x : ℕ). eqb (x % 2) 1) (pow-suc 2 s) ∙ ap (λ (x : ℕ). eqb x 1) (even (2 ^ s)) ∙ sym (eqb-zero-suc s)
  where
    even : (p : ℕ) → p * 2 % 2 ≡ 0
    even p = omega arith
power_bit (suc s) (suc i) =
    bit_suc (2 ^ suc s) i ∙ ap (λ (x : ℕ). bit (x / 2) i) (pow-suc 2 s) ∙ ap (λ (x : ℕ). bit x i) (half (2 ^ s)) ∙ power_bit s i
    ∙ sym (eqb-suc-suc i s)
  where
    half : (p : ℕ) → p * 2 / 2 ≡ p
    half p = omega arith

pub ones_bit : (k i : ℕ) → i < k → bit (2 ^ k - 1) i ≡ true
ones_bit k i l = ap (λ (x : ℕ). bit x i) (sym (sub-zero (2 ^ k - 1))) ∙ not_bit k 0 i (pow_pos k) l ∙ ap not (zero_bit i)

-- ---- `trailing_zeros`, at a width of k digits
odd_or_even : (w : ℕ) → (w % 2 ≡ 0) ⊎ (w % 2 ≡ 1)
odd_or_even w = ⊎_elim (λ e. inl e) (λ p. inr (omega arith)) (eq-zero-or-pos (w % 2))

trailing_even : (k w : ℕ) → w % 2 ≡ 0 → count_trailing_zeros (suc k) w ≡ suc (count_trailing_zeros k (w / 2))
unfolding count_trailing_zeros
trailing_even k w e = ap (λ (r : ℕ). under r (count_trailing_zeros k (w / 2))) e

trailing_odd : (k w : ℕ) → w % 2 ≡ 1 → count_trailing_zeros (suc k) w ≡ 0
unfolding count_trailing_zeros
trailing_odd k w e = ap (λ (r : ℕ). under r (count_trailing_zeros k (w / 2))) e

pub trailing_lt : (k w : ℕ) → w < 2 ^ k → 0 < w → count_trailing_zeros k w < k
trailing_lt zero w h p = absurd (omega arith)
trailing_lt (suc k) w h p =
    let h' : w < 2 ^ k * 2 = subst (λ (x : ℕ). w < x) (pow-suc 2 k) h in
    let less : 0 < w / 2 → count_trailing_zeros k (w / 2) < k = trailing_lt k (w / 2) (half_below (2 ^ k) w h') in
    ⊎_elim (λ e. rw (trailing_even k w e) (suc-le-suc (less (omega arith)))) (λ e. rw (trailing_odd k w e) (zero-lt-suc k)) (odd_or_even w)

pub trailing_hit : (k w : ℕ) → w < 2 ^ k → 0 < w → bit w (count_trailing_zeros k w) ≡ true
trailing_hit zero w h p = absurd (omega arith)
trailing_hit (suc k) w h p =
    let h' : w < 2 ^ k * 2 = subst (λ (x : ℕ). w < x) (pow-suc 2 k) h in
    let hit : 0 < w / 2 → bit (w / 2) (count_trailing_zeros k (w / 2)) ≡ true = trailing_hit k (w / 2) (half_below (2 ^ k) w h') in
    ⊎_elim (λ e. ap (bit w) (trailing_even k w e) ∙ bit_suc w (count_trailing_zeros k (w / 2)) ∙ hit (omega arith))
    (λ e. ap (bit w) (trailing_odd k w e) ∙ bit_zero w ∙ ap (λ (r : ℕ). eqb r 1) e) (odd_or_even w)

pub trailing_below : (k w i : ℕ) → i < count_trailing_zeros k w → bit w i ≡ false
unfolding count_trailing_zeros
trailing_below zero w i l = absurd (not-suc-le-zero l)
trailing_below (suc k) w zero l =
    ⊎_elim (λ e. bit_zero w ∙ ap (λ (r : ℕ). eqb r 1) e) (λ e. absurd (not-suc-le-zero (rw (trailing_odd k w e) at l))) (odd_or_even w)
trailing_below (suc k) w (suc i) l =
    ⊎_elim (λ e. bit_suc w i ∙ trailing_below k (w / 2) i (le_of_suc-le-suc (rw (trailing_even k w e) at l)))
    (λ e. absurd (not-suc-le-zero (rw (trailing_odd k w e) at l))) (odd_or_even w)

-- ---- `w & (w - 1)`: the lowest digit is cleared
self_and : (b : Bool) → (b && b) ≡ (b && true)
self_and true = refl
self_and false = refl

odd_less : (w i : ℕ) → w % 2 ≡ 1 → (bit w i && bit (w - 1) i) ≡ (bit w i && not (eqb i 0))
odd_less w zero e =
    let even : (w - 1) % 2 ≡ 0 = omega arith in
    rw (bit_zero (w - 1), even)
odd_less w (suc i) e =
    let half : (w - 1) / 2 ≡ w / 2 = omega arith in
    rw (bit_suc w i, bit_suc (w - 1) i, half, eqb-suc-zero i) (self_and (bit (w / 2) i))

even_less : (w i t : ℕ) → w % 2 ≡ 0 → 0 < w → ((j : ℕ) → (bit (w / 2) j && bit (w / 2 - 1) j) ≡ (bit (w / 2) j && not (eqb j t)))
    → (bit w i && bit (w - 1) i) ≡ (bit w i && not (eqb i (suc t)))
even_less w zero t e p ih = rw (bit_zero w, e)
even_less w (suc i) t e p ih =
    let half : (w - 1) / 2 ≡ w / 2 - 1 = omega arith in
    rw (bit_suc w i, bit_suc (w - 1) i, half, eqb-suc-suc i t) (ih i)

pub less_bit : (k w i : ℕ) → w < 2 ^ k → 0 < w → (bit w i && bit (w - 1) i) ≡ (bit w i && not (eqb i (count_trailing_zeros k w)))
less_bit zero w i h p = absurd (omega arith)
less_bit (suc k) w i h p =
    let h' : w < 2 ^ k * 2 = subst (λ (x : ℕ). w < x) (pow-suc 2 k) h in
    ⊎_elim (λ e. rw (trailing_even k w e) (even_less w i (count_trailing_zeros k (w / 2)) e p (λ j. less_bit k (w / 2) j (half_below (2 ^ k) w h') (omega arith))))
    (λ e. rw (trailing_odd k w e) (odd_less w i e)) (odd_or_even w)
