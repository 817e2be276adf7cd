-- Bytes as a number in base 256: its first digits are the number of the first bytes. A name's numbers tell its event.
use Rattle.std.proofs.Common.{◌≡◌, ℕ, zero, suc, ◌+◌, ◌-◌, ◌*◌, ◌/◌, ◌^◌, ◌<◌, ◌≤◌, min, true, T, eqb, ltb, ◌⊎◌, List, [], ◌∷◌, ◌++◌, map, length, get_or, take, drop, sym, refl, ap, ◌∙◌, inl, inr, mul-le-mul_right, mul_assoc, add-mul, add-one, arith, ltb→lt, length-drop, take-append-drop, drop_of_length-le, length-take, length-take-le, take_all, drop-cons, take-take, drop-drop, take-add, drop_at, pow-add, eqb-true}
use mathlib.Core.List.Memᴰ
use lib.ListN.{length-map}
use lib.Pow.{high}
use Rattle.std.specs.Int.{from_be_bytes, w32, w64}
use Rattle.model.specs.Bytes.{lower}
use Rattle.model.specs.Lists.{every}
use Rattle.model.specs.Reading.{part}
use Rattle.model.proofs.Laws.{order, every_elim}
use Rattle.model.proofs.ListLaws.{map_drop}
use Rattle.model.proofs.Words.{Spans, spans_part}
use Rattle.lexer.specs.Words.{packed_from, packed}
use Rattle.lexer.proofs.Telling.{EachByte, front, back, told, name_bytes}
use Rattle.quick_words.specs.Guessed.{fold, Folds, Packs}
use Rattle.quick_words.proofs.Folding.{fold_bytes, folded_one}

-- 256 to the power of a number
abbrev scale : ℕ → ℕ
scale n = 2 ^ (8 * n)

scale_suc : (n : ℕ) → scale (suc n) ≡ 256 * scale n
scale_suc n = let q : 8 * suc n ≡ 8 + 8 * n = omega arith in rw q (pow-add 2 8 (8 * n))

module _ (w : List ℕ) (n : ℕ) where
  abbrev Weighed : ℕ → Type 0
  Weighed v = packed_from v w ≡ v * n + packed w

  -- a byte before others
  weighed_cons : (b v : ℕ) → Weighed b → Weighed (v * 256 + b) → packed_from v (b ∷ w) ≡ v * (256 * n) + packed (b ∷ w)
  weighed_cons b v i j =
      let z : 0 + b ≡ b = omega arith in
      rw (z, i, j, add-mul (v * 256) b n, mul_assoc v 256 n) (omega arith)

-- bytes after those of v
packed_from_lem : (w : List ℕ) (v : ℕ) → packed_from v w ≡ v * scale (length w) + packed w
packed_from_lem [] v = omega arith
packed_from_lem (b ∷ w) v = rw (scale_suc (length w)) (weighed_cons w (scale (length w)) b v (packed_from_lem w b) (packed_from_lem w (v * 256 + b)))

packed_append : (a w : List ℕ) (v : ℕ) → packed_from v (a ++ w) ≡ packed_from (packed_from v a) w
packed_append [] w v = refl
packed_append (b ∷ a) w v = packed_append a w (v * 256 + b)

packed_below : (w : List ℕ) → EachByte w → packed w < scale (length w)
packed_below [] h = omega arith
packed_below (b ∷ w) h =
    let i = packed_below w (λ c m. h c (Memᴰ.tail m)) in
    let n = scale (length w) in
    let j : b ≤ 255 = omega (arith, h b (Memᴰ.head refl)) in
    let z : 0 + b ≡ b = omega arith in
    rw (scale_suc (length w), z, packed_from_lem w b) (omega (arith, mul-le-mul_right n j))

-- the first k of eight bytes
pub first_bytes : (w : List ℕ) → EachByte w → length w ≡ 8 → (k : ℕ) → k ≤ 8 → packed w / 2 ^ (8 * (8 - k)) ≡ packed (take k w)
first_bytes w h e k l =
    let n : length (drop k w) ≡ 8 - k = omega (arith, length-drop k w) in
    let q : packed w ≡ packed (take k w) * scale (8 - k) + packed (drop k w) =
    ap packed (sym (take-append-drop k w)) ∙ packed_append (take k w) (drop k w) 0 ∙ rw (packed_from_lem (drop k w) (packed (take k w)), n) refl in
    rw q (high (packed (take k w)) (8 * (8 - k)) (rw n at (packed_below (drop k w) (back k w h))))

map_take : {A B : Type 0} (g : A → B) (k : ℕ) (l : List A) → map g (take k l) ≡ take k (map g l)
map_take g zero l = refl
map_take g (suc k) [] = refl
map_take {B = B} g (suc k) (x ∷ l) = ap (λ (r : List B). g x ∷ r) (map_take g k l)

-- the bytes of a text
each_byte : (s : List ℕ) → ((i : ℕ) → get_or s i 0 < 256) → EachByte s
each_byte [] h b x'' = elim x'' [ ]
each_byte (a ∷ s) h b (Memᴰ.head e) = omega (arith, h 0)
each_byte (a ∷ s) h b (Memᴰ.tail m) = each_byte s (λ i. h (suc i)) b m

module _ (s : List ℕ) where
  head : (k at next : ℕ) → at + 1 ≡ next → at < length s → part s at (suc k) ≡ get_or s at 0 ∷ part s next k
  head k at next e h = rw (drop-cons s at 0 h, ← e, add-one)

  -- the eight bytes at a position
  pub eight : (at : ℕ) → at + 8 ≤ length s → from_be_bytes w64 (part s at 8) ≡ packed (part s at 8)
  eight at b =
      rw (
        head 7 at (at + 1) refl (omega arith),
        head 6 (at + 1) (at + 2) (omega arith) (omega arith),
        head 5 (at + 2) (at + 3) (omega arith) (omega arith),
        head 4 (at + 3) (at + 4) (omega arith) (omega arith),
        head 3 (at + 4) (at + 5) (omega arith) (omega arith),
        head 2 (at + 5) (at + 6) (omega arith) (omega arith),
        head 1 (at + 6) (at + 7) (omega arith) (omega arith),
        head 0 (at + 7) (at + 8) (omega arith) (omega arith),
      )
      (omega arith)

  -- the four bytes at a position
  pub four : (at r : ℕ) → at + 4 ≤ length s
      → r ≡ from_be_bytes w32 (get_or s at 0 ∷ get_or s (at + 1) 0 ∷ get_or s (at + 2) 0 ∷ get_or s (at + 3) 0 ∷ []) → r ≡ packed (part s at 4)
  four at r b p =
      rw (
        head 3 at (at + 1) refl (omega arith),
        head 2 (at + 1) (at + 2) (omega arith) (omega arith),
        head 1 (at + 2) (at + 3) (omega arith) (omega arith),
        head 0 (at + 3) (at + 4) (omega arith) (omega arith),
      )
      (omega arith)

  eight_long : (at : ℕ) → at + 8 ≤ length s → length (part s at 8) ≡ 8
  eight_long at h = length-take-le 8 (drop at s) (omega (arith, length-drop at s))

  module _ (each : (i : ℕ) → get_or s i 0 < 256) where
    each_part : (at n : ℕ) → EachByte (part s at n)
    each_part at n = front n (drop at s) (back at s (each_byte s each))

    -- the first k of the eight bytes at a position
    word : (at k : ℕ) → at + 8 ≤ length s → k ≤ 8 → packed (part s at 8) / 2 ^ (8 * (8 - k)) ≡ packed (part s at k)
    word at k h l =
        first_bytes (part s at 8) (each_part at 8) (eight_long at h) k l ∙ rw (take-take k 8 (drop at s) l)

    -- at most eight bytes are told by their number
    told_word : (at : ℕ) (w : List ℕ) → T (every (λ b. ltb b 256) w) → length w ≤ 8 → at + length w ≤ length s → packed (part s at (length w)) ≡ packed w
        → Spans s at w (at + length w)
    told_word at w t l b e =
        let d : length w ≤ length (drop at s) = omega (arith, length-drop at s) in
        let n : length (part s at (length w)) ≡ length w = length-take-le (length w) (drop at s) d in
        let q : part s at (length w) ≡ w =
        told (part s at (length w)) w (each_part at (length w)) (λ c m. ltb→lt c 256 (every_elim (λ b. ltb b 256) w t c m)) n
        (rw (take_all 8 (part s at (length w)) (omega arith), take_all 8 w l) e)
        (rw (drop_of_length-le (part s at (length w)) {i = 8} (omega arith), drop_of_length-le w {i = 8} l) refl) in
        rw q at (spans_part s at (length w) (at + length w) refl d)

    -- four bytes, by the code's test of their number
    pub told_four : (at v : ℕ) (w : List ℕ) → T (every (λ b. ltb b 256) w) → length w ≡ 4 → at + 4 ≤ length s → v ≡ packed (part s at 4) → eqb v (packed w) ≡ true
        → Spans s at w (at + 4)
    told_four at v w t l b e q =
        rw (← l) (told_word at w t (omega arith) (omega arith) (ap (λ (n : ℕ). packed (part s at n)) l ∙ sym e ∙ eqb-true v (packed w) q))

    -- the first k of the eight bytes at a position, folded
    folded_word : (at k : ℕ) {x : ℕ} → at + 8 ≤ length s → k ≤ 8 → x ≡ packed (map fold (part s at 8)) → x / 2 ^ (8 * (8 - k)) ≡ packed (map fold (part s at k))
    folded_word at k h l e =
        let w = part s at 8 in
        rw e
        (first_bytes (map fold w) (fold_bytes w (each_part at 8)) (length-map w fold ∙ eight_long at h) k l ∙ rw (← map_take fold k w, take-take k 8 (drop at s) l) refl)

    -- a name's first eight bytes, and the others
    module _ (at size : ℕ) (b : at + 16 ≤ length s) (m : size ≤ 16) where
      abbrev w : List ℕ
      w = part s at size

      module _ (f : ℕ) (p : f ≡ min size 8) where
        high_part : (size < 8) ⊎ (8 ≤ size) → take 8 w ≡ part s at f
        high_part (inl g) = let e : f ≡ size = omega arith in rw e (take_all 8 w (omega (arith, length-take size (drop at s))))
        high_part (inr g) = let e : f ≡ 8 = omega arith in rw e (take-take 8 size (drop at s) g)

        low_part : (size < 8) ⊎ (8 ≤ size) → drop 8 w ≡ part s (at + 8) (size - f)
        low_part (inl g) =
            let e : size - f ≡ 0 = omega arith in
            rw e (drop_of_length-le w {i = 8} (omega (arith, length-take size (drop at s))))
        low_part (inr g) =
            let e : size ≡ 8 + (size - f) = omega arith in
            let n : length (part s at 8) ≡ 8 = eight_long at (omega arith) in
            let t : w ≡ part s at 8 ++ part s (at + 8) (size - f) =
            ap (part s at) e ∙ take-add 8 (size - f) (drop at s) ∙ rw (drop-drop 8 at s) in
            rw t (drop_at (part s at 8) (part s (at + 8) (size - f)) 8 n)

        pub packs : {h l t u x y : ℕ} → t ≡ packed (part s at 8) → u ≡ packed (part s (at + 8) 8) → Folds t x → Folds u y → h ≡ x / 2 ^ (8 * (8 - f))
            → l ≡ y / 2 ^ (8 * (8 - (size - f))) → Packs s at size h l
        packs {h} {l} g k c d q r =
            let u : h ≡ packed (take 8 (map fold w)) =
            q ∙ folded_word at f (omega arith) (omega arith) (c.eight (part s at 8) (each_part at 8) (eight_long at (omega arith)) g)
            ∙ ap (λ (v : List ℕ). packed (map fold v)) (sym (high_part (order size 8))) ∙ ap packed (map_take fold 8 w) in
            let v : l ≡ packed (drop 8 (map fold w)) =
            r ∙ folded_word (at + 8) (size - f) (omega arith) (omega arith) (d.eight (part s (at + 8) 8) (each_part (at + 8) 8) (eight_long (at + 8) (omega arith)) k)
            ∙ ap (λ (v : List ℕ). packed (map fold v)) (sym (low_part (order size 8))) ∙ ap packed (map_drop fold 8 w) in
            let n : length w ≡ size = length-take-le size (drop at s) (omega (arith, length-drop at s)) in
            record {
              one = λ e o z i j.
                  folded_one w e o.each
                  (told (map fold w) (map lower e) (fold_bytes w (each_part at size)) (name_bytes e o)
                  (length-map w fold ∙ n ∙ sym z ∙ sym (length-map e lower)) (sym u ∙ sym i) (sym v ∙ sym j));
            }
