-- Transitions written into a row of numbers one after another.
use Prim.Native.Nat.{ℕ, zero, suc, ◌+◌, ◌*◌, ◌≤◌, ◌<◌}
use mathlib.Core.Path.{◌≡◌, refl, ◌∙◌, ap, sym}
use mathlib.Core.List.{List, [], ◌∷◌, map}
use native.Mathlib.Numerals.{add-one}
use native.Mathlib.Omega.{arith}
use lib.ListN.{set, length, length-set}
use lib.Seq.{get_or-set_same, get_or-set_other}
use Rattle.model.specs.Cases.{recorded}
use Rattle.model.proofs.ListLaws.{map_append}
use Rattle.rows.specs.Told.{entry, first_transitions}
use Rattle.rows.proofs.Fronts.{front_more}
use Rattle.listing.specs.Records.{record_at, first_records}

-- rows that agree below 3 * k have the same first k records
records_agree : (xs ys : List ℕ) (k : ℕ) → ((i : ℕ) → i < 3 * k → entry xs i ≡ entry ys i) → first_records xs k ≡ first_records ys k
unfolding first_records
records_agree xs ys zero h = refl
records_agree xs ys (suc k) h =
    let front : first_records xs k ≡ first_records ys k = records_agree xs ys k (λ i l. h i (omega arith)) in
    let a : entry xs (3 * k) ≡ entry ys (3 * k) = h (3 * k) (omega arith) in
    let b : entry xs (3 * k + 1) ≡ entry ys (3 * k + 1) = h (3 * k + 1) (omega arith) in
    let c : entry xs (3 * k + 2) ≡ entry ys (3 * k + 2) = h (3 * k + 2) (omega arith) in
    rw (front, a, b, c)

-- three numbers from `at` on
abbrev pub put : List ℕ → ℕ → ℕ → ℕ → ℕ → List ℕ
put row at a b c = set (set (set row at a) (at + 1) b) (at + 2) c

module _ (row : List ℕ) (at a b c : ℕ) where
  -- after the first store, and after the second
  abbrev one : List ℕ
  one = set row at a

  abbrev two : List ℕ
  two = set one (at + 1) b

  pub length_put : length (put row at a b c) ≡ length row
  length_put = simp length-set

  -- what stands before them stays
  put_before : (i : ℕ) → i < at → entry (put row at a b c) i ≡ entry row i
  put_before i l =
      get_or-set_other two (at + 2) i c 0 (λ e. omega arith)
      ∙ get_or-set_other one (at + 1) i b 0 (λ e. omega arith)
      ∙ get_or-set_other row at i a 0 (λ e. omega arith)

  -- and each stands where it was put
  module _ (h : at + 2 < length row) where
    put_first : entry (put row at a b c) at ≡ a
    put_first =
        get_or-set_other two (at + 2) at c 0 (λ e. omega arith)
        ∙ get_or-set_other one (at + 1) at b 0 (λ e. omega arith)
        ∙ get_or-set_same row at a 0 (omega arith)

    put_second : entry (put row at a b c) (at + 1) ≡ b
    put_second =
        get_or-set_other two (at + 2) (at + 1) c 0 (λ e. omega arith) ∙ get_or-set_same one (at + 1) b 0 (simp length-set (omega arith))

    put_third : entry (put row at a b c) (at + 2) ≡ c
    put_third = get_or-set_same two (at + 2) c 0 (simp length-set h)

-- the first k transitions are written into a row that had this length
pub record Listed (sources events targets : List ℕ) (size : ℕ) (row : List ℕ) (k : ℕ) : Type 0 where
  pub same_size : length row ≡ size
  pub listed : map recorded (first_records row k) ≡ first_transitions sources events targets k

module _ {sources events targets : List ℕ} {size : ℕ} where
  -- before the first transition, after one more, and after the last
  pub listed_none : (row : List ℕ) → length row ≡ size → Listed sources events targets size row 0
  unfolding first_records first_transitions
  listed_none row e = record { same_size = e; listed = refl }

  pub listed_more : {row : List ℕ} {k : ℕ} → Listed sources events targets size row k → 3 * k + 2 < size
      → Listed sources events targets size (put row (3 * k) (entry sources k) (entry events k) (entry targets k)) (k + 1)
  unfolding first_records recorded
  listed_more {row} {k} p h =
      let new = put row (3 * k) (entry sources k) (entry events k) (entry targets k) in
      let fits : 3 * k + 2 < length row = omega (arith, p.same_size) in
      let front = records_agree new row k (put_before row (3 * k) _ _ _) in
      record {
        same_size = length_put row (3 * k) _ _ _ ∙ p.same_size;
        listed =
            rw (
              add-one k,
              map_append recorded (first_records new k) (record_at new k ∷ []),
              front,
              p.listed,
              put_first row (3 * k) (entry sources k) (entry events k) (entry targets k) fits,
              put_second row (3 * k) (entry sources k) (entry events k) (entry targets k) fits,
              put_third row (3 * k) (entry sources k) (entry events k) (entry targets k) fits,
            )
            (sym (ap (first_transitions sources events targets) (sym (add-one k)) ∙ front_more sources events targets k));
      }

  pub listed_all : {row : List ℕ} {k n : ℕ} → Listed sources events targets size row k → k ≤ n → n ≤ k
      → map recorded (first_records row n) ≡ first_transitions sources events targets n
  listed_all {k = k} {n = n} p l h = let e : n ≡ k = omega arith in rw e p.listed
