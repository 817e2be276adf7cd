-- A row in which each word is ended by byte 0, and the same with byte 10 for each 0: a list of names.
use Prim.Native.Nat.{ℕ, zero, suc, ◌-◌, ◌<◌, ◌≤◌}
use native.Mathlib.Omega.{arith}
use mathlib.Core.Path.{◌≡◌, refl, ap, sym, ◌∙◌, subst}
use mathlib.Core.Bool.{Bool, true, false, cond}
use mathlib.Core.List.{List, [], ◌∷◌, ◌++◌, map, flat_map, flatten, append-nil}
use borrow.Author.Tests.{eqb-true}
use lib.Dec.{eqb}
use lib.ListN.{length, take, drop, length-append, length-drop, drop_of_length-le}
use lib.Seq.{take_all}
use Rattle.model.specs.BoardTable.{ended}
use Rattle.command_line.specs.WordRow.{begun_by, words_in, row_of, EachEnded}
use Rattle.command_line.proofs.Cutting.{Some, words, some_words}

-- ---- rows of words

-- a byte more before them
one_more_lem : (b : ℕ) {s : List ℕ} → 0 < length s → EachEnded s → EachEnded (b ∷ s)
unfolding words_in begun_by
one_more_lem b {s} l h = record { rebuilt = go (eqb b 0) refl (some_words s l) h.rebuilt }
  where
    go : (t : Bool) → eqb b 0 ≡ t → Some (words_in s) → row_of (words_in s) ≡ s → row_of (cond t ([] ∷ words_in s) (begun_by b (words_in s))) ≡ b ∷ s
    go true e p q = let z : b ≡ 0 = eqb-true b 0 e in cc
    go false e (words w ws p) q = ap (λ (x : List (List ℕ)). row_of (begun_by b x)) p ∙ ap (λ (x : List ℕ). b ∷ x) (sym (ap row_of p) ∙ q)

with_word : (w : List ℕ) {s : List ℕ} → EachEnded s → EachEnded (w ++ (0 ∷ s))
unfolding words_in
with_word [] {s} h = record { rebuilt = ap (λ (x : List ℕ). 0 ∷ x) h.rebuilt }
with_word (b ∷ w) {s} h = one_more_lem b (omega (arith, length-append w (0 ∷ s))) (with_word w h)

-- the row of any words
pub row_ended : (ws : List (List ℕ)) → EachEnded (row_of ws)
unfolding words_in
row_ended [] = record { rebuilt = refl }
row_ended (w ∷ ws) = with_word w (row_ended ws)

-- ---- a part of such a row

tail_same : (b c : ℕ) (s t : List ℕ) → b ∷ s ≡ c ∷ t → s ≡ t
tail_same b c s t e = cc

ended_tail : (b : ℕ) (s : List ℕ) → EachEnded (b ∷ s) → EachEnded s
unfolding words_in begun_by
ended_tail b s h = go (eqb b 0) (words_in s) refl h.rebuilt
  where
    go : (t : Bool) (ws : List (List ℕ)) → words_in s ≡ ws → row_of (cond t ([] ∷ ws) (begun_by b ws)) ≡ b ∷ s → EachEnded s
    go true ws p q = record { rebuilt = ap row_of p ∙ tail_same 0 b (row_of ws) s q }
    go false [] p q = subst EachEnded (tail_same b b (0 ∷ []) s q) (row_ended ([] ∷ []))
    go false (w ∷ ws) p q = record { rebuilt = ap row_of p ∙ tail_same b b (w ++ (0 ∷ row_of ws)) s q }

ended_from : (k : ℕ) (s : List ℕ) → EachEnded s → EachEnded (drop k s)
ended_from zero s h = h
ended_from (suc k) [] h = h
ended_from (suc k) (b ∷ s) h = ended_from k s (ended_tail b s h)

-- as the code hands it on
pub ended_part : (s : List ℕ) (at : ℕ) → EachEnded s → EachEnded (take (length s - at) (drop at s))
ended_part s at h = rw (take_all (length s - at) (drop at s) (omega (arith, length-drop at s))) (ended_from at s h)

-- ---- the list of names

abbrev name_byte : ℕ → ℕ
name_byte b = cond (eqb b 0) 10 b

names_in_lem : (s : List ℕ) → EachEnded s → map name_byte s ≡ flat_map ended (words_in s)
unfolding words_in begun_by flat_map flatten
names_in_lem [] h = refl
names_in_lem (b ∷ s) h = go (eqb b 0) (words_in s) refl h.rebuilt (ended_tail b s h).rebuilt (names_in_lem s (ended_tail b s h))
  where
    go : (t : Bool) (ws : List (List ℕ)) → words_in s ≡ ws → row_of (cond t ([] ∷ ws) (begun_by b ws)) ≡ b ∷ s → row_of (words_in s) ≡ s
        → map name_byte s ≡ flat_map ended (words_in s) → cond t 10 b ∷ map name_byte s ≡ flat_map ended (cond t ([] ∷ ws) (begun_by b ws))
    go true ws p q r i = ap (λ (x : List ℕ). 10 ∷ x) (i ∙ ap (flat_map ended) p)
    go false [] p q r i = absurd (omega (arith, ap length (sym (ap row_of p) ∙ r), ap length q))
    go false (w ∷ ws) p q r i = ap (λ (x : List ℕ). b ∷ x) (i ∙ ap (flat_map ended) p)

-- the bytes before i are turned; row is what stands there, and its rest is as it was
pub record Turned (s row : List ℕ) (i : ℕ) : Type 0 where
  pub size : length row ≡ length s
  pub turned : map name_byte s ≡ take i row ++ map name_byte (drop i row)

module _ {s row : List ℕ} {i : ℕ} (t : Turned s row i) where
  pub turned_all : length s ≤ i → EachEnded s → row ≡ flat_map ended (words_in s)
  turned_all l h =
      let k : length row ≤ i = omega (arith, t.size) in
      sym
      (t.turned
      ∙ ap (λ (x : List ℕ). take i row ++ map name_byte x) (drop_of_length-le row k)
      ∙ append-nil (take i row)
      ∙ take_all i row k)
      ∙ names_in_lem s h
