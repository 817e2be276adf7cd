-- A to Z as a to z in eight bytes at once: what the bits come to, byte by byte, and that no other byte passes for one of a name.
use Rattle.std.proofs.Common.{◌≡◌, ℕ, zero, suc, ◌+◌, ◌*◌, ◌/◌, ◌%◌, ◌<◌, Bool, true, false, not, eqb, ◌⊎◌, List, [], ◌∷◌, map, length, refl, ap, ◌∙◌, inl, inr, arith, eqb→eq, eqb-true}
use mathlib.Core.List.{Memᴰ}
use mathlib.Core.Option.{none, or_else}
use lib.Bits.{bit_and, bit_or, and_block, or_block, and_zero_r, and_le_r}
use Rattle.model.specs.Lists.{lowest}
use Rattle.model.specs.Bytes.{lower, Letter, Digit, Name, OneEvent}
use Rattle.model.proofs.Laws.{lowest_none, not_not}
use Rattle.model.proofs.ListLaws.{each_image}
use Rattle.model.proofs.OneEvent.{Lowered, capital, other, lowered}
use Rattle.lexer.specs.Words.{packed_from}
use Rattle.lexer.proofs.Telling.{EachByte, InSmall, letter, below, in_small}
use Rattle.quick_words.specs.Guessed.{fold, Folds}

-- ---- bits

-- bit 5 of each of n bytes, and what the code does to a word of n bytes
abbrev bits5 : ℕ → ℕ
bits5 zero = 0
bits5 (suc n) = bits5 n * 256 + 32

abbrev folded : ℕ → ℕ → ℕ
folded n x = bit_or x (bit_and (x / 2) (bits5 n))

-- one byte, by trying all
differs : ℕ → Bool
differs b = not (eqb (bit_or b (bit_and (b / 2) 32)) (fold b))

none_differs : lowest differs 256 ≡ none
unfolding differs fold lowest or_else
none_differs = refl

byte_folded : (b : ℕ) → b < 256 → bit_or b (bit_and (b / 2) 32) ≡ fold b
unfolding differs
byte_folded b h =
    eqb→eq (bit_or b (bit_and (b / 2) 32)) (fold b) (not_not (eqb (bit_or b (bit_and (b / 2) 32)) (fold b)) (lowest_none differs 256 none_differs b h))

-- the lowest bit of v, which is shifted down into the byte below, is none of those taken
below_mask : (u c : ℕ) → c < 128 → bit_and (u * 128 + c) 32 ≡ bit_and c 32
below_mask u c h = and_block 7 u 0 c 32 h (omega arith) ∙ rw (and_zero_r u) (omega arith)

folded_byte : (n v b : ℕ) → b < 256 → folded (suc n) (v * 256 + b) ≡ folded n v * 256 + fold b
folded_byte n v b h =
    let half : (v * 256 + b) / 2 ≡ v / 2 * 256 + (v % 2 * 128 + b / 2) = omega arith in
    let m = and_block 8 (v / 2) (bits5 n) (v % 2 * 128 + b / 2) 32 (omega arith) (omega arith) in
    let q : bit_and ((v * 256 + b) / 2) (bits5 n * 256 + 32) ≡ bit_and (v / 2) (bits5 n) * 256 + bit_and (b / 2) 32 =
    rw half (m ∙ rw (below_mask (v % 2) (b / 2) (omega arith)) refl) in
    rw q (or_block 8 v (bit_and (v / 2) (bits5 n)) b (bit_and (b / 2) 32) h (omega (arith, and_le_r (b / 2) 32)) ∙ rw (byte_folded b h) refl)

folded_from : (w : List ℕ) → EachByte w → (n v : ℕ) → folded (n + length w) (packed_from v w) ≡ packed_from (folded n v) (map fold w)
folded_from [] h n v = let z : n + 0 ≡ n = omega arith in rw z refl
folded_from (b ∷ w) h n v =
    let z : n + suc (length w) ≡ suc n + length w = omega arith in
    rw z (folded_from w (λ c m. h c (Memᴰ.tail m)) (suc n) (v * 256 + b)
    ∙ ap (λ (x : ℕ). packed_from x (map fold w)) (folded_byte n v b (h b (Memᴰ.head refl))))

-- the code's word
pub folds : (x : ℕ) → Folds x (bit_or x (bit_and (x / 2) 2314885530818453536))
folds x = record { eight = λ w h e q. rw q (rw e at (folded_from w h 0 0)) }

-- ---- bytes of names

-- 32 is added, or nothing
data Turned (b : ℕ) : Type 0 where
  raised : b / 32 % 4 ≡ 2 → fold b ≡ b + 32 → Turned b
  kept : fold b ≡ b → Turned b

turned : (b : ℕ) → Turned b
unfolding fold
turned b = go (eqb (b / 32 % 4) 2) refl
  where
    go : (t : Bool) → eqb (b / 32 % 4) 2 ≡ t → Turned b
    go true e = raised (eqb-true (b / 32 % 4) 2 e) (rw e refl)
    go false e = kept (rw e refl)

fold_byte : (b : ℕ) → b < 256 → fold b < 256
fold_byte b h = go (turned b)
  where
    go : Turned b → fold b < 256
    go (raised e f) = omega arith
    go (kept f) = omega arith

pub fold_bytes : (w : List ℕ) → EachByte w → EachByte (map fold w)
fold_bytes w h = each_image (λ b. b < 256) fold w (λ b m. fold_byte b (h b m))

-- a byte that comes to one of a name in small letters is that byte but for its case
fold_one : (b c : ℕ) → Letter c ⊎ (Digit c ⊎ (c ≡ 45)) → fold b ≡ lower c → lower b ≡ lower c
fold_one b c n e = go (turned b) (in_small c n) (lowered b)
  where
    go : Turned b → InSmall c → Lowered b → lower b ≡ lower c
    go (raised r f) (letter l m) (capital x y g) = omega arith
    go (raised r f) (letter l m) (other (inl x) g) = absurd (omega arith)
    go (raised r f) (letter l m) (other (inr x) g) = absurd (omega arith)
    go (raised r f) (below m) t = absurd (omega arith)
    go (kept f) (letter l m) (capital x y g) = absurd (omega arith)
    go (kept f) (below m) (capital x y g) = absurd (omega arith)
    go (kept f) m (other x g) = omega arith

pub folded_one : (w e : Name) → ((c : ℕ) → Memᴰ c e → Letter c ⊎ (Digit c ⊎ (c ≡ 45))) → map fold w ≡ map lower e → OneEvent w e
folded_one [] [] n q = refl
folded_one [] (c ∷ e) n q = let z : ◌≡◌ {A = ℕ} 0 1 = cc in absurd (omega arith)
folded_one (b ∷ w) [] n q = let z : ◌≡◌ {A = ℕ} 0 1 = cc in absurd (omega arith)
folded_one (b ∷ w) (c ∷ e) n q =
    let p : fold b ≡ lower c = cc in
    let r : map fold w ≡ map lower e = cc in
    let i : lower b ≡ lower c = fold_one b c (n c (Memᴰ.head refl)) p in
    let j : map lower w ≡ map lower e = folded_one w e (λ d m. n d (Memᴰ.tail m)) r in
    cc
