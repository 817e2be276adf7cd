-- Records filled one after another.
use Prim.Native.Nat.{ℕ, zero, suc, ◌+◌, ◌≤◌, ◌<◌}
use mathlib.Core.Path.{◌≡◌, refl, ◌∙◌, ap, sym}
use mathlib.Core.List.{List, [], ◌∷◌, ◌++◌, append_assoc}
use native.Mathlib.Numerals.{add-one}
use native.Mathlib.Omega.{arith}
use lib.ListN.{get_or, set, length, drop, length-append, length-drop}
use lib.Seq.{drop-cons, set_at}
use Rattle.model.specs.declared.Transition.{Transition}
use Rattle.listing.specs.Records.{record_at, first_records, filled}

length_records : (numbers : List ℕ) (k : ℕ) → length (first_records numbers k) ≡ k
unfolding first_records
length_records numbers zero = refl
length_records numbers (suc k) = length-append (first_records numbers k) (record_at numbers k ∷ []) ∙ ap (λ (n : ℕ). n + 1) (length_records numbers k) ∙ add-one k

module _ (numbers : List ℕ) where
  pub length_filled : (k : ℕ) (out : List Transition) → k ≤ length out → length (filled numbers k out) ≡ length out
  unfolding filled
  length_filled k out h = simp (length-append, length_records, length-drop) (omega arith)

  pub filled_more : (i : ℕ) (out : List Transition) → i < length out → set (filled numbers i out) i (record_at numbers i) ≡ filled numbers (i + 1) out
  unfolding filled first_records
  filled_more i out h =
      ap (λ (l : List Transition). set (first_records numbers i ++ l) i (record_at numbers i)) (drop-cons out i (record_at numbers i) h)
      ∙ set_at (first_records numbers i) (get_or out i (record_at numbers i)) (drop (suc i) out) (record_at numbers i) i (length_records numbers i)
      ∙ sym (append_assoc (first_records numbers i) (record_at numbers i ∷ []) (drop (suc i) out))
      ∙ ap (λ (j : ℕ). first_records numbers j ++ drop j out) (sym (add-one i))
