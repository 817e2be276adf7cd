-- The length and the two numbers of a name tell its event: packing loses nothing but the case.
use Prim.Native.Nat.{ℕ, ◌+◌, ◌*◌, ◌<◌, ◌≤◌}
use native.Mathlib.Omega.{arith}
use mathlib.Core.Path.{◌≡◌, refl, sym, ◌∙◌, subst}
use mathlib.Core.Logic.{◌⊎◌, inl, inr}
use mathlib.Core.List.Memᴰ
use mathlib.Core.List.{List, [], ◌∷◌, map, Memᴰ}
use lib.ListN.{length, take, drop, length-take, length-drop, length-map, take-append-drop}
use Rattle.model.specs.Bytes.{lower, Letter, Digit, Name, IsName, OneEvent}
use Rattle.model.proofs.ListLaws.{each_image}
use Rattle.model.proofs.OneEvent.{Lowered, capital, other, lowered}
use Rattle.lexer.specs.Words.{packed_from, packed, high, low}

abbrev pub EachByte : List ℕ → Type 0
EachByte w = (b : ℕ) → Memᴰ b w → b < 256

-- two words of one length: as numbers they begin with the same number and have the same bytes
packed_same : (w v : List ℕ) (x y : ℕ) → EachByte w → EachByte v → length w ≡ length v → packed_from x w ≡ packed_from y v → (x ≡ y) × (w ≡ v)
packed_same [] [] x y p q l e = (e, refl)
packed_same [] (b ∷ v) x y p q l e = absurd (omega arith)
packed_same (a ∷ w) [] x y p q l e = absurd (omega arith)
packed_same (a ∷ w) (b ∷ v) x y p q l e =
    let (n, t) = packed_same w v (x * 256 + a) (y * 256 + b) (λ c m. p c (Memᴰ.tail m)) (λ c m. q c (Memᴰ.tail m)) (omega arith) e in
    let i = p a (Memᴰ.head refl) in
    let j = q b (Memᴰ.head refl) in
    let h : a ≡ b = omega arith in
    (omega arith, cc)

pub front : (k : ℕ) (w : List ℕ) → EachByte w → EachByte (take k w)
front k w p b m = p b (subst (Memᴰ b) (take-append-drop k w) (Memᴰ.append_left (drop k w) m))

pub back : (k : ℕ) (w : List ℕ) → EachByte w → EachByte (drop k w)
back k w p b m = p b (subst (Memᴰ b) (take-append-drop k w) (Memᴰ.append_right (take k w) m))

-- the length and the numbers of two parts tell a word
pub told : (w v : List ℕ) → EachByte w → EachByte v → length w ≡ length v → packed (take 8 w) ≡ packed (take 8 v) → packed (drop 8 w) ≡ packed (drop 8 v)
    → w ≡ v
told w v p q l h o =
    let f : take 8 w ≡ take 8 v =
    (packed_same (take 8 w) (take 8 v) 0 0 (front 8 w p) (front 8 v q) (omega (arith, length-take 8 w, length-take 8 v)) h).1 in
    let b : drop 8 w ≡ drop 8 v =
    (packed_same (drop 8 w) (drop 8 v) 0 0 (back 8 w p) (back 8 v q) (omega (arith, length-drop 8 w, length-drop 8 v)) o).1 in
    sym (take-append-drop 8 w) ∙ cc (f, b, take-append-drop 8 v)

-- ---- names

-- a name byte in small letters: a small letter, or a byte below the capitals
pub data InSmall (b : ℕ) : Type 0 where
  letter : 97 ≤ lower b → lower b ≤ 122 → InSmall b
  below : lower b < 65 → InSmall b

pub in_small : (b : ℕ) → Letter b ⊎ (Digit b ⊎ (b ≡ 45)) → InSmall b
in_small b n = go n (lowered b)
  where
    go : Letter b ⊎ (Digit b ⊎ (b ≡ 45)) → Lowered b → InSmall b
    go n (capital x y e) = letter (omega arith) (omega arith)
    go (inl (inl (l, h))) (other x e) = letter (omega arith) (omega arith)
    go (inl (inr (l, h))) (other (inl x) e) = absurd (omega arith)
    go (inl (inr (l, h))) (other (inr x) e) = absurd (omega arith)
    go (inr (inl (l, h))) (other x e) = below (omega arith)
    go (inr (inr q)) (other x e) = below (omega arith)

pub name_bytes : (w : Name) → IsName w → EachByte (map lower w)
name_bytes w n = each_image (λ b. b < 256) lower w (λ b m. go (in_small b (n.each b m)))
  where
    go : {b : ℕ} → InSmall b → lower b < 256
    go (letter l h) = omega arith
    go (below h) = omega arith

-- of a name they tell the event
pub told_one : (w e : Name) → IsName w → IsName e → length w ≡ length e → high w ≡ high e → low w ≡ low e → OneEvent w e
told_one w e p q l h o =
    told (map lower w) (map lower e) (name_bytes w p) (name_bytes e q) (length-map w lower ∙ l ∙ sym (length-map e lower)) h o
