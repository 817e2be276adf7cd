-- The machines that are kept, by the bits of a number, and their line.
use Prim.Native.Nat.{ℕ, zero, suc, ◌+◌, ◌*◌, ◌/◌, ◌%◌, ◌^◌, ◌≤◌, ◌<◌}
use native.Mathlib.Numerals.{add-one}
use native.Mathlib.Omega.{arith}
use mathlib.Core.Path.{◌≡◌, refl, ap, sym, ◌∙◌}
use mathlib.Core.Bool.{Bool, true, false, cond}
use mathlib.Core.List.{List, [], ◌∷◌, ◌++◌, flat_map, append-nil, append_assoc}
use lib.Bits.{bit_and, and_mask}
use lib.Dec.{eqb}
use lib.ListN.{length, get_or, take, length-append}
use lib.Seq.{take_all}
use Rattle.model.specs.Bytes.{bytes, numeral}
use Rattle.model.specs.Printed.{spaced, joined, marked}
use Rattle.model.proofs.Laws.{cond_true, cond_false, eqb_of, neqb}
use Rattle.state_set.specs.Member.{bit}
use Rattle.writers.specs.Written.{Writes}
use Rattle.writers.proofs.Writing.{writes_none, writes_append}
use Rattle.irredundant.specs.Kept.{set_number}
use Rattle.irredundant.proofs.SetNumber.{set_number_bit}
use Rattle.printing.specs.Shown.{kept_below}
use Rattle.printing.proofs.Lengths.{numeral_some, numeral_two}
use Rattle.printing.proofs.Places.{spaced_one, spaced_append}

-- ---- the bits of a number

-- the machines below m + 1, by bit m as the code tests it
module _ (set m : ℕ) where
  tested : bit_and (set / 2 ^ m) 1 ≡ set / 2 ^ m % 2
  tested = and_mask (set / 2 ^ m) 1

  kept_more : bit_and (set / 2 ^ m) 1 ≡ 1 → kept_below set (m + 1) ≡ kept_below set m ++ (m ∷ [])
  unfolding kept_below
  kept_more h =
      rw (add-one m)
      (ap (λ (w : List ℕ). kept_below set m ++ w) (cond_true (eqb (set / 2 ^ m % 2) 1) (m ∷ []) [] (eqb_of (set / 2 ^ m % 2) 1 (sym tested ∙ h))))

  kept_same : ¬ (bit_and (set / 2 ^ m) 1 ≡ 1) → kept_below set (m + 1) ≡ kept_below set m
  unfolding kept_below
  kept_same h =
      rw (add-one m)
      (ap (λ (w : List ℕ). kept_below set m ++ w) (cond_false (eqb (set / 2 ^ m % 2) 1) (m ∷ []) [] (neqb (set / 2 ^ m % 2) 1 (λ e. h (tested ∙ e))))
      ∙ append-nil (kept_below set m))

-- the numbers of marks, of one mark more
marked_more : (marks : List Bool) (k n : ℕ) → marked k (take (suc n) marks) ≡ marked k (take n marks) ++ cond (get_or marks n false) ((k + n) ∷ []) []
unfolding marked
marked_more [] k zero = refl
marked_more [] k (suc n) = refl
marked_more (b ∷ marks) k zero = let z : k + 0 ≡ k = omega arith in rw z
marked_more (true ∷ marks) k (suc n) =
    let z : suc k + n ≡ k + suc n = omega arith in
    ap (λ (w : List ℕ). k ∷ w) (marked_more marks (suc k) n ∙ ap (λ (x : ℕ). marked (suc k) (take n marks) ++ cond (get_or marks n false) (x ∷ []) []) z)
marked_more (false ∷ marks) k (suc n) =
    let z : suc k + n ≡ k + suc n = omega arith in
    marked_more marks (suc k) n ∙ ap (λ (x : ℕ). marked (suc k) (take n marks) ++ cond (get_or marks n false) (x ∷ []) []) z

marked_below : (marks : List Bool) (n : ℕ) → kept_below (set_number marks) n ≡ marked 0 (take n marks)
unfolding kept_below marked bit
marked_below marks zero = refl
marked_below marks (suc n) =
    let z : 0 + n ≡ n = omega arith in
    ap (λ (w : List ℕ). w ++ cond (bit (set_number marks) n) (n ∷ []) []) (marked_below marks n)
    ∙ ap (λ (b : Bool). marked 0 (take n marks) ++ cond b (n ∷ []) []) (set_number_bit marks n)
    ∙ sym (marked_more marks 0 n ∙ ap (λ (x : ℕ). marked 0 (take n marks) ++ cond (get_or marks n false) (x ∷ []) []) z)

-- the number of 16 marks at most tells the machines marked
pub marked_kept : (marks : List Bool) → length marks ≤ 16 → kept_below (set_number marks) 16 ≡ marked 0 marks
marked_kept marks h = marked_below marks 16 ∙ ap (marked 0) (take_all 16 marks h)

-- ---- numbers joined by spaces

-- what stands before one number more
unfoldable pub lead : List ℕ → List ℕ
lead [] = []
lead (n ∷ ns) = joined (n ∷ ns) ++ bytes " "

lead_next : (ns : List ℕ) (k : ℕ) → joined (ns ++ (k ∷ [])) ≡ lead ns ++ numeral k
unfolding lead joined spaced flat_map
lead_next [] k = append-nil (numeral k)
lead_next (n ∷ ns) k =
    ap (λ (w : List ℕ). numeral n ++ w) (spaced_append ns (k ∷ []) ∙ ap (λ (w : List ℕ). spaced ns ++ w) (spaced_one k))
    ∙ sym (simp append_assoc)

joined_some : (n : ℕ) (ns : List ℕ) → 0 < length (joined (n ∷ ns))
unfolding joined
joined_some n ns = omega (arith, length-append (numeral n) (spaced ns), numeral_some n)

lead_space : (ns : List ℕ) → 0 < length (joined ns) → lead ns ≡ joined ns ++ bytes " "
unfolding lead joined
lead_space [] h = absurd (omega arith)
lead_space (n ∷ ns) h = refl

lead_none : (ns : List ℕ) → length (joined ns) ≤ 0 → lead ns ≡ joined ns
unfolding lead joined
lead_none [] h = refl
lead_none (n ∷ ns) h = absurd (omega (arith, joined_some n ns))

-- ---- the loop

-- the numbers of the machines below m that are kept are written
pub record Keeping (set at : ℕ) (out left : List ℕ) (i m : ℕ) : Type 0 where
  pub most : m ≤ 16
  pub short : i ≤ at + 3 * m
  pub written : Writes (joined (kept_below set m)) at out i left

-- and what stands before the next
pub record Led (set at : ℕ) (out left : List ℕ) (i m : ℕ) : Type 0 where
  pub short : i ≤ at + 3 * m + 1
  pub written : Writes (lead (kept_below set m)) at out i left

module _ {set at : ℕ} {out : List ℕ} where
  pub keeping_none : Keeping set at out out at 0
  unfolding joined kept_below
  keeping_none = record { most = omega arith; short = omega arith; written = writes_none }

  module _ {left : List ℕ} {i m : ℕ} (k : Keeping set at out left i m) where
    pub led_space : {j : ℕ} {after : List ℕ} → at < i → Writes (bytes " ") i left j after → Led set at out after j m
    led_space l w =
        record {
          short = omega (arith, k.short, w.after);
          written = rw (lead_space (kept_below set m) (omega (arith, k.written.after))) (writes_append k.written w);
        }

    pub led_none : i ≤ at → Led set at out left i m
    led_none l =
        record {
          short = omega (arith, k.short);
          written = rw (lead_none (kept_below set m) (omega (arith, k.written.after))) k.written;
        }

    pub keeping_skip : m < 16 → ¬ (bit_and (set / 2 ^ m) 1 ≡ 1) → Keeping set at out left i (m + 1)
    keeping_skip l h = record { most = omega arith; short = omega (arith, k.short); written = rw (kept_same set m h) k.written }

  pub keeping_add : {left after : List ℕ} {i j m : ℕ} → Led set at out left i m → m < 16 → bit_and (set / 2 ^ m) 1 ≡ 1
      → Writes (numeral m) i left j after → Keeping set at out after j (m + 1)
  keeping_add {m = m} k l h w =
      record {
        most = omega arith;
        short = omega (arith, k.short, w.after, numeral_two m (omega arith));
        written = rw (kept_more set m h, lead_next (kept_below set m) m) (writes_append k.written w);
      }

  pub keeping_end : {left : List ℕ} {i m : ℕ} → Keeping set at out left i m → 16 ≤ m
      → Writes (joined (kept_below set 16)) at out i left × (i ≤ at + 64)
  keeping_end {m = m} k h = let z : m ≡ 16 = omega (arith, k.most) in (rw z at k.written, omega (arith, k.short, k.most))
