-- Bytes that stand in a text, and the figures that they write.
use Rattle.std.proofs.Common.{◌≡◌, ℕ, ◌+◌, ◌-◌, ◌*◌, ◌/◌, ◌%◌, ◌<◌, ◌≤◌, Bool, true, false, cond, ◌&&◌, eqb, leb, List, [], ◌∷◌, length, get_or, sym, refl, ◌∙◌, add-one, arith, drop-cons, eqb-true, leb-true}
use Rattle.model.specs.Bytes.{is_digit}
use Rattle.model.proofs.Laws.{both}
use Rattle.model.proofs.Words.{Spans, then, digits_one, digits_two, digits_three}
use Rattle.quick_words.specs.declared.Figure.{Figure}
use Rattle.quick_words.specs.Guessed.{FigureStands, GuessedFigure, SizedFigure, one, two, three}

-- the byte at i
pub byte : (s : List ℕ) (at next i : ℕ) {a : ℕ} → at ≡ i → i + 1 ≡ next → i < length s → a ≡ get_or s i 0 → Spans s at (a ∷ []) next
byte s at next i p q h e =
    record { bytes = rw (p, e, ← q, add-one) (drop-cons s i 0 h); moved = omega arith }

-- the code's test of a byte
pub equal : (s : List ℕ) (at b : ℕ) → at < length s → eqb (get_or s at 0) b ≡ true → Spans s at (b ∷ []) (at + 1)
equal s at b h t = byte s at (at + 1) at refl refl h (sym (eqb-true (get_or s at 0) b t))

-- the number that a digit writes
record Writes (b x : ℕ) : Type 0 where
  byte : b ≡ 48 + x
  small : x < 10

digit : (b : ℕ) → is_digit b ≡ true → Writes b (b % 16)
unfolding is_digit
digit b e =
    let (u, v) = both (leb 48 b) (leb b 57) e in
    let l = leb-true 48 b u in
    let h = leb-true b 57 v in
    record { byte = omega arith; small = omega arith }

-- digits at a position, and the number that they write
module _ {s : List ℕ} {at next v a x : ℕ} (da : Writes a x) where
  stands_1 : Spans s at (a ∷ []) next → v ≡ x → FigureStands s at v next
  stands_1 p e =
      let q : 48 + v ≡ a = omega arith in
      record { most = omega arith; spans = rw (digits_one v (omega arith), q) p }

  module _ {b y : ℕ} (db : Writes b y) where
    stands_2 : Spans s at (a ∷ b ∷ []) next → v ≡ x * 10 + y → 10 ≤ v → FigureStands s at v next
    stands_2 p e l =
        let q : 48 + v / 10 ≡ a = omega arith in
        let r : 48 + v % 10 ≡ b = omega arith in
        record { most = omega arith; spans = rw (digits_two v l (omega arith), q, r) p }

    stands_3 : {c z : ℕ} → Writes c z → Spans s at (a ∷ b ∷ c ∷ []) next → v ≡ x * 100 + y * 10 + z → 100 ≤ v → FigureStands s at v next
    stands_3 {c} dc p e l =
        let q : 48 + v / 100 ≡ a = omega arith in
        let r : 48 + v / 10 % 10 ≡ b = omega arith in
        let t : 48 + v % 10 ≡ c = omega arith in
        record { most = omega arith; spans = rw (digits_three v l, q, r, t) p }

-- the tests that the code makes of a figure's bytes
module _ (a b c x y z : ℕ) (f : Figure) where
  tested : (n : ℕ) → f.found ≡ (is_digit a && leb n f.value) → f.found ≡ true → (is_digit a ≡ true) × (n ≤ f.value)
  tested n e t = let (u, v) = both (is_digit a) (leb n f.value) (sym e ∙ t) in (u, leb-true n f.value v)

  pub sized : (u v : Bool) → u ≡ is_digit b → v ≡ is_digit c → f.size ≡ cond (u && v) 3 (cond u 2 1) → f.value ≡ cond (u && v) z (cond u y x)
      → f.found ≡ (is_digit a && leb (cond (u && v) 100 (cond u 10 0)) f.value) → SizedFigure a b c x y z f
  sized false v i j k l m = one k (λ t. ((tested 0 m t).0, l))
  sized true false i j k l m = two k (sym i) (λ t. ((tested 10 m t).0, l, (tested 10 m t).1))
  sized true true i j k l m = three k (sym i) (sym j) (λ t. ((tested 100 m t).0, l, (tested 100 m t).1))

  module _ (s : List ℕ) where
    -- the bytes stand at a position, in this order; the third if it is a digit
    pub forwards : (at : ℕ) → at + 2 ≤ length s → a ≡ get_or s at 0 → b ≡ get_or s (at + 1) 0 → x ≡ a % 16 → y ≡ x * 10 + b % 16
        → (is_digit c ≡ true → (at + 3 ≤ length s) × (c ≡ get_or s (at + 2) 0) × (z ≡ y * 10 + c % 16))
        → SizedFigure a b c x y z f → GuessedFigure s at (at + f.size) f
    forwards at h ea eb ex ey third (one k g) =
        record {
          least = omega arith;
          most = omega arith;
          stands = λ t. stands_1 (digit a (g t).0) (byte s at (at + f.size) at refl (omega arith) (omega arith) ea) (omega (arith, (g t).1));
        }
    forwards at h ea eb ex ey third (two k db g) =
        record {
          least = omega arith;
          most = omega arith;
          stands = λ t.
              stands_2 (digit a (g t).0) (digit b db)
              (then (byte s at (at + 1) at refl refl (omega arith) ea) (byte s (at + 1) (at + f.size) (at + 1) refl (omega arith) (omega arith) eb))
              (omega (arith, (g t).1)) (g t).2;
        }
    forwards at h ea eb ex ey third (three k db dc g) =
        let (hc, ec, ez) = third dc in
        record {
          least = omega arith;
          most = omega arith;
          stands = λ t.
              stands_3 (digit a (g t).0) (digit b db) (digit c dc)
              (then (byte s at (at + 1) at refl refl (omega arith) ea)
              (then (byte s (at + 1) (at + 2) (at + 1) refl (omega arith) (omega arith) eb)
              (byte s (at + 2) (at + f.size) (at + 2) refl (omega arith) (omega arith) ec)))
              (omega (arith, (g t).1)) (g t).2;
        }

    -- the bytes stand before a position, from the last on
    pub backwards : (end : ℕ) → 3 ≤ end → end ≤ length s → a ≡ get_or s (end - 1) 0 → b ≡ get_or s (end - 2) 0 → c ≡ get_or s (end - 3) 0 → x ≡ a % 16
        → y ≡ b % 16 * 10 + x → z ≡ c % 16 * 100 + y → SizedFigure a b c x y z f → GuessedFigure s (end - f.size) end f
    backwards end l h ea eb ec ex ey ez (one k g) =
        record {
          least = omega arith;
          most = omega arith;
          stands = λ t. stands_1 (digit a (g t).0) (byte s (end - f.size) end (end - 1) (omega arith) (omega arith) (omega arith) ea) (omega (arith, (g t).1));
        }
    backwards end l h ea eb ec ex ey ez (two k db g) =
        record {
          least = omega arith;
          most = omega arith;
          stands = λ t.
              stands_2 (digit b db) (digit a (g t).0)
              (then (byte s (end - f.size) (end - 1) (end - 2) (omega arith) (omega arith) (omega arith) eb)
              (byte s (end - 1) end (end - 1) refl (omega arith) (omega arith) ea))
              (omega (arith, (g t).1)) (g t).2;
        }
    backwards end l h ea eb ec ex ey ez (three k db dc g) =
        record {
          least = omega arith;
          most = omega arith;
          stands = λ t.
              stands_3 (digit c dc) (digit b db) (digit a (g t).0)
              (then (byte s (end - f.size) (end - 2) (end - 3) (omega arith) (omega arith) (omega arith) ec)
              (then (byte s (end - 2) (end - 1) (end - 2) refl (omega arith) (omega arith) eb)
              (byte s (end - 1) end (end - 1) refl (omega arith) (omega arith) ea)))
              (omega (arith, (g t).1)) (g t).2;
        }
