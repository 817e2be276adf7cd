-- Bytes as a number in base 256: the loop that packs a run of name bytes, and the two numbers of a name.
use Prim.Native.Nat.{ℕ, suc, ◌+◌, ◌-◌, ◌*◌, ◌^◌, ◌<◌, ◌≤◌, min}
use native.Mathlib.Nat.{pow-suc, pow-le-pow_right}
use native.Mathlib.Omega.{arith}
use mathlib.Core.Path.{◌≡◌, refl, ap, sym, ◌∙◌}
use mathlib.Core.Logic.{⊎_elim}
use mathlib.Core.Bool.{Bool, true, not, ◌&&◌}
use mathlib.Core.List.{List, [], ◌∷◌, ◌++◌, map}
use mathlib.Core.Option.{none, or_else}
use lib.Bits.{bit_or, or_lt}
use lib.Dec.{T, eqb, eqb→eq}
use lib.ListN.{length, get_or, take, drop, length-drop, length-map, drop_of_length-le}
use lib.Seq.{take-suc, length-take-le, take_all, take-add, take_at, drop_at, drop-drop, get_or-drop}
use Rattle.model.specs.Lists.{lowest}
use Rattle.model.specs.Bytes.{leading, is_name_byte, is_letter, is_capital, is_digit, lower}
use Rattle.model.specs.Reading.{part}
use Rattle.model.proofs.Laws.{order, lowest_none, not_not, not_and}
use Rattle.model.proofs.ListLaws.{map_append}
use Rattle.model.proofs.Words.{leading_le}
use Rattle.lexer.specs.Words.{packed_from, packed, found_name}
use Rattle.lexer.specs.declared.NameAt.{NameAt}
use Rattle.lexer.proofs.Runs.{Passes, Fails, run_more, run_stop, run_rest}

-- how many name bytes stand at a position
abbrev pub run : List ℕ → ℕ → ℕ
run s at = leading is_name_byte (drop at s)

packed_snoc : (w : List ℕ) (x b : ℕ) → packed_from x (w ++ (b ∷ [])) ≡ packed_from x w * 256 + b
packed_snoc [] x b = refl
packed_snoc (a ∷ w) x b = packed_snoc w (x * 256 + a) b

-- bit 5 makes a name byte that of small letters, by trying all
raised : ℕ → Bool
raised b = is_name_byte b && not (eqb (bit_or b 32) (lower b))

none_raised : lowest raised 256 ≡ none
unfolding raised is_name_byte is_letter is_capital is_digit lower lowest or_else
none_raised = refl

bit_5 : (b : ℕ) → b < 256 → is_name_byte b ≡ true → bit_or b 32 ≡ lower b
unfolding raised
bit_5 b h e =
    let same = eqb (bit_or b 32) (lower b) in
    let t : T (is_name_byte b) = rw e tt in
    eqb→eq (bit_or b 32) (lower b) (not_not same (not_and (is_name_byte b) (not same) (lowest_none raised 256 none_raised b h) t))

-- the loop that packs the run at `from` has v and stands at i
pub record Packing (s : List ℕ) (from v i : ℕ) : Type 0 where
  pub least : from ≤ i
  pub most : i ≤ from + 8
  pub along : i + run s i ≡ from + run s from
  pub value : v ≡ packed (map lower (part s from (i - from)))
  pub small : v < 256 ^ (i - from)
  pub within : from < i → i ≤ length s

pub pack_start : {s : List ℕ} {from : ℕ} → Packing s from 0 from
pack_start {s} {from} =
    let z : from - from ≡ 0 = omega arith in
    record { least = omega arith; most = omega arith; along = refl; value = rw z; small = rw z (omega arith); within = λ h. absurd (omega arith) }

module _ {s : List ℕ} {from v i : ℕ} (inv : Packing s from v i) where
  pub pack_more : i - from < 8 → Passes is_name_byte s i → {b c : ℕ} → b ≡ get_or s i 0 → b < 256 → c ≡ bit_or b 32 → Packing s from (v * 256 + c) (i + 1)
  pack_more h r {b} {c} e l m =
      let n : i + 1 - from ≡ suc (i - from) = omega arith in
      let k : from + (i - from) ≡ i = omega arith in
      let g : get_or (drop from s) (i - from) 0 ≡ b = get_or-drop from s (i - from) 0 ∙ ap (λ (j : ℕ). get_or s j 0) k ∙ sym e in
      let f : i - from < length (drop from s) = omega (arith, length-drop from s) in
      let q : c ≡ lower b = m ∙ bit_5 b l (ap is_name_byte e ∙ r.passes) in
      record {
        least = omega arith;
        most = omega arith;
        along = omega (arith, run_more r);
        value = rw (n, take-suc (drop from s) (i - from) 0 f, map_append lower (part s from (i - from)), packed_snoc, g, ← q, ← inv.value);
        small = rw (n, pow-suc) (omega (arith, or_lt 8 b 32 l (omega arith)));
        within = λ _. omega (arith, r.within);
      }

  -- one byte more goes into 64 bits
  pub pack_fits : i - from < 8 → v * 256 + 255 < 256 ^ 8
  pack_fits h = omega (arith, pow-le-pow_right {n = 256} (omega arith) {i = i - from} {j = 7} (omega arith))

  pub pack_stop : Fails is_name_byte s i → i ≡ from + min 8 (run s from)
  pack_stop f = omega (arith, run_stop f)

  pub pack_full : 8 ≤ i - from → i ≡ from + min 8 (run s from)
  pack_full h = omega arith

-- the code's answer
abbrev pub named : ℕ → ℕ → ℕ → ℕ → NameAt
named l h w next = record { name = record { «len» = l; high = h; low = w }; next = next }

-- the two runs from `at` on, of at most eight name bytes each: they end at m and e, and h and l are their numbers
pub record Halves (s : List ℕ) (at m e h l : ℕ) : Type 0 where
  pub first : m ≡ at + min 8 (run s at)
  pub second : e ≡ m + min 8 (run s m)
  pub high_is : h ≡ packed (map lower (part s at (m - at)))
  pub low_is : l ≡ packed (map lower (part s m (e - m)))

module _ {s : List ℕ} {at m e h l : ℕ} (p : Halves s at m e h l) where
  -- together they have the run's first 16 bytes
  pub both : e ≡ at + min 16 (run s at)
  both = omega (arith, run_rest is_name_byte s at m (omega arith) (omega arith))

  pub behind : e + run s e ≡ at + run s at
  behind = run_rest is_name_byte s at e (omega (arith, both)) (omega (arith, both))

  whole : length (part s at (e - at)) ≡ e - at
  whole = length-take-le (e - at) (drop at s) (omega (arith, both, leading_le is_name_byte (drop at s)))

  lowered : length (map lower (part s at (e - at))) ≡ e - at
  lowered = length-map (part s at (e - at)) lower ∙ whole

  short : e - at < 8 → named (e - at) h l e ≡ found_name (part s at (e - at)) e
  short n =
      let w = map lower (part s at (e - at)) in
      let z : e - e ≡ 0 = omega arith in
      let q : m ≡ e = omega (arith, both) in
      let a : take 8 w ≡ w = take_all 8 w (omega (arith, lowered)) in
      let b : drop 8 w ≡ [] = drop_of_length-le w {i = 8} (omega (arith, lowered)) in
      simp (whole, a, b, p.high_is, p.low_is, q, z)

  long : 8 ≤ e - at → named (e - at) h l e ≡ found_name (part s at (e - at)) e
  long n =
      let f : m - at ≡ 8 = omega (arith, both) in
      let q : e - at ≡ 8 + (e - m) = omega (arith, both) in
      let k : at + 8 ≡ m = omega (arith, both) in
      let u = map lower (part s at 8) in
      let v = map lower (part s m (e - m)) in
      let r : part s at (e - at) ≡ part s at 8 ++ part s m (e - m) = rw (q, take-add, drop-drop, k) in
      let t : map lower (part s at (e - at)) ≡ u ++ v = ap (map lower) r ∙ map_append lower (part s at 8) (part s m (e - m)) in
      let j : length u ≡ 8 =
      length-map (part s at 8) lower ∙ length-take-le 8 (drop at s) (omega (arith, both, leading_le is_name_byte (drop at s))) in
      let a : take 8 (map lower (part s at (e - at))) ≡ u = rw t (take_at u v 8 j) in
      let b : drop 8 (map lower (part s at (e - at))) ≡ v = rw t (drop_at u v 8 j) in
      simp (whole, a, b, p.high_is, p.low_is, f)

  pub halves_name : named (e - at) h l e ≡ found_name (part s at (e - at)) e
  halves_name = ⊎_elim short long (order (e - at) 8)
