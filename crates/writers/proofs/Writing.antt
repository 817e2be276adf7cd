-- Words written one after another, and the room that is left for the next.
use Prim.Native.Nat.{ℕ, zero, suc, ◌+◌, ◌≤◌, ◌<◌}
use native.Mathlib.Numerals.{add-one}
use native.Mathlib.Omega.{arith}
use mathlib.Core.Path.{◌≡◌, refl, ap, sym, ◌∙◌}
use mathlib.Core.Logic.{◌⊎◌, inl, inr}
use mathlib.Core.List.{List, [], ◌∷◌, ◌++◌}
use lib.ListN.{length, get_or, set, take, length-append}
use lib.Seq.{length-sets, take-suc}
use Rattle.model.proofs.Laws.{below_suc}
use Rattle.model.proofs.ListLaws.{sets_append}
use Rattle.writers.specs.Written.{Writes}

module _ {at : ℕ} {out : List ℕ} where
  pub writes_none : Writes [] at out at out
  writes_none = record { after = omega arith; bytes_left = refl }

  module _ {a mid : List ℕ} {n : ℕ} (w : Writes a at out n mid) where
    pub writes_append : {b left : List ℕ} {m : ℕ} → Writes b n mid m left → Writes (a ++ b) at out m left
    writes_append {b} {left} {m} v =
        record {
          after = omega (arith, w.after, v.after, length-append a b);
          bytes_left = v.bytes_left ∙ rw (w.bytes_left, w.after) (sym (sets_append out at a b));
        }

    pub writes_length : length mid ≡ length out
    writes_length = ap length w.bytes_left ∙ length-sets out at a

-- three words, with what stands before, between and after them
pub spaced : (a w b x d y f : List ℕ)
    → length (a ++ (w ++ (b ++ (x ++ (d ++ (y ++ f)))))) ≡ length a + length b + length d + length f + length w + length x + length y
spaced a w b x d y f = simp length-append (omega arith)

-- one byte stored
pub byte_stored : {x a at : ℕ} {out : List ℕ} → a ≡ x → Writes (x ∷ []) at out (at + 1) (set out at a)
byte_stored {x} {a} {at} {out} e = record { after = refl; bytes_left = ap (set out at) e }

-- the first i bytes of a word are written
pub record Begun (word : List ℕ) (at : ℕ) (out left : List ℕ) (i : ℕ) : Type 0 where
  pub most : i ≤ length word
  pub written : Writes (take i word) at out (at + i) left

module _ {word : List ℕ} {at : ℕ} {out : List ℕ} where
  module _ {left : List ℕ} {i : ℕ} (p : Begun word at out left i) where
    pub begun_more : i < length word → Begun word at out (set left (at + i) (get_or word i 0)) (i + 1)
    begun_more h =
        let z : at + (i + 1) ≡ at + i + 1 = omega arith in
        record { most = omega arith; written = rw (z, add-one i, take-suc word i 0 h) (writes_append p.written (byte_stored refl)) }

-- what grows with each item is longest with all
module _ (f : ℕ → List ℕ) (grows : (n : ℕ) → length (f n) ≤ length (f (n + 1))) where
  pub within : (n m : ℕ) → n ≤ m → length (f n) ≤ length (f m)
  within n zero h = let z : n ≡ 0 = omega arith in rw z (omega arith)
  within n (suc m) h = go (below_suc n (suc m) (omega arith)) (within n m)
    where
      go : (n < suc m) ⊎ (n ≡ suc m) → (n ≤ m → length (f n) ≤ length (f m)) → length (f n) ≤ length (f (suc m))
      go (inl l) ih = let z : suc m ≡ m + 1 = omega arith in rw z (omega (arith, ih (omega arith), grows m))
      go (inr q) ih = rw q (omega arith)
