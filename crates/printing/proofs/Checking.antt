-- Calls that lend bytes, by their ways out: the refusal, or whether what is left in the buffer is more than is lent. The buffer itself always suffices.
use Prim.Native.Nat.{ℕ, ◌<◌, ◌≤◌}
use native.Mathlib.Omega.{arith}
use mathlib.Core.Path.{◌≡◌, refl, ap, sym, ◌∙◌}
use mathlib.Core.Bool.{Bool, true, false, cond}
use mathlib.Core.List.{List, ◌++◌}
use borrow.Author.Tests.{le-leb, lt-leb}
use lib.Dec.{leb}
use lib.ListN.{length, take, drop}
use lib.Seq.{take_at, length-take-le}
use Rattle.model.specs.declared.Refusal as D
use Rattle.model.specs.declared.Refusal.TheVariants.{BufferTooShort}
use Rattle.model.specs.Cases.{tabled}
use Rattle.model.specs.Refusal.{Refusal, refuse, Checked, refused, passed, need, ◌>>=◌, ◌>>◌}
use Rattle.model.specs.Sheet.{Board, written_sheet, sheet}
use Rattle.model.specs.Text.{Input}
use Rattle.model.specs.Merging.{merged_input}
use Rattle.model.specs.Quotation.{quotation}
use Rattle.model.specs.Services.{as_far_as12, Lent, lend, check, merge, quote, written_refusal, written_answer, printed}
use Rattle.model.specs.Board.{read_sheet, rewrite}
use Rattle.model.specs.Printed.{printed_by, fitting, printed_check, printed_merge, printed_quote, printed_sheet}
use Rattle.model.proofs.Demands.{demand1, demand2}
use Rattle.model.proofs.Merges.{merges_hold}
use Rattle.model.proofs.Quotes.{quoting_holds}
use Rattle.std.specs.Prelude.{Result, Ok, Err}
use Rattle.answers.specs.Answers.{answered}
use Rattle.answers.proofs.Lending.{lent_all}
use Rattle.printing.specs.Shown.{Shows, FitsBuffer, lent_line}
use Rattle.printing.proofs.Showing.{printed_all}

-- ---- the answer by its cases

module _ (lent : ℕ) (a : Result ℕ D.Refusal) (left : List ℕ) where
  pub shows_refused : {why : D.Refusal} → a ≡ Err why → {n : ℕ} {after : List ℕ} → Shows (written_refusal (tabled why)) n after
      → Shows (lent_line lent (answered a) left) n after
  unfolding answered lent_line
  shows_refused e w = rw e w

  module _ {size : ℕ} (e : a ≡ Ok size) where
    pub shows_short : lent < size → {n : ℕ} {after : List ℕ} → Shows (written_refusal (tabled (BufferTooShort size))) n after
        → Shows (lent_line lent (answered a) left) n after
    unfolding answered lent_line tabled
    shows_short l w = rw (e, lt-leb size lent l) w

    pub shows_left : size ≤ lent → length left ≡ 32768 → FitsBuffer (answered a) → Shows (lent_line lent (answered a) left) size left
    unfolding answered lent_line
    shows_left l h f =
        let most : size ≤ length left = omega (arith, f.most size (ap answered e)) in
        rw (e, le-leb size lent l) (record { size = sym (length-take-le size left most); shown = refl; buffer = h })

-- ---- what is printed of a call that writes what passes

module _ {A : Type 0} (c : Checked A) (written : A → List ℕ) (fits : (v : A) → c ≡ passed v → length (written v) ≤ 32768) (out : List ℕ) (h : length out ≡ 32768) where
  -- what the call answers and leaves
  abbrev Left : Checked ℕ → List ℕ → Type 0
  Left a left = (a ≡ (lend (c >>= λ v. passed (written v)) out).answer) × (left ≡ (lend (c >>= λ v. passed (written v)) out).left)

  data Came (a : Checked ℕ) (left : List ℕ) : Type 0 where
    turned_down : (r : Refusal) → c ≡ refused r → a ≡ refused r → Came a left
    wrote : (v : A) → c ≡ passed v → a ≡ passed (length (written v)) → take (length (written v)) left ≡ written v → Came a left

  came : {a : Checked ℕ} {left : List ℕ} → Left a left → Came a left
  unfolding lend
  came {a} {left} (p, q) = go c refl
    where
      go : (x : Checked A) → c ≡ x → Came a left
      go (refused r) e = turned_down r e (p ∙ ap (λ (x : Checked A). (lend (x >>= λ v. passed (written v)) out).answer) e)
      go (passed v) e =
          let w = written v in
          let all : lend (c >>= λ v. passed (written v)) out ≡ record { answer = passed (length w); left = w ++ drop (length w) out } =
          ap (λ (x : Checked A). lend (x >>= λ v. passed (written v)) out) e ∙ lent_all w out (omega (arith, fits v e)) in
          wrote v e (p ∙ ap (λ (x : Lent ℕ). x.answer) all) (ap (take (length w)) (q ∙ ap (λ (x : Lent ℕ). x.left) all) ∙ take_at w (drop (length w) out) (length w) refl)

  pub left_fits : {a : Checked ℕ} {left : List ℕ} → Left a left → FitsBuffer a
  left_fits {a} {left} l = record { most = λ n e. go n e (came l) }
    where
      go : (n : ℕ) → a ≡ passed n → Came a left → n ≤ 32768
      go n e (turned_down r x y) = let z : ◌≡◌ {A = ℕ} 0 1 = cc in absurd (omega arith)
      go n e (wrote v x y t) = let z : n ≡ length (written v) = cc in omega (arith, fits v x)

  pub left_printed : (lent : ℕ) {a : Checked ℕ} {left : List ℕ} → Left a left → lent_line lent a left ≡ printed_by (λ w. w) (c >>= λ v. fitting lent (written v))
  unfolding lent_line printed_by fitting
  left_printed lent {a} {left} l = go (came l)
    where
      by : (w : List ℕ) → take (length w) left ≡ w → (t : Bool)
          → cond t (take (length w) left) (written_refusal (refuse 13 (length w) 0)) ≡ printed_by (λ x. x) (need (refuse 13 (length w) 0) t >> passed w)
      by w e true = e
      by w e false = refl

      go : Came a left → lent_line lent a left ≡ printed_by (λ w. w) (c >>= λ v. fitting lent (written v))
      go (turned_down r x y) = rw (x, y)
      go (wrote v x y t) = rw (x, y) (by (written v) t (leb (length (written v)) lent))

-- ---- the sheet of a text

check_fits : (s : List ℕ) (v : Input) → as_far_as12 s ≡ passed v → length (sheet v) ≤ 32768
check_fits s v e =
    let says = ((demand2 s).shown v (((demand2 s).as_far_as_12.passes v).0 e)).says in
    omega (arith, ap length says.0, says.1.size)

module _ (s out : List ℕ) (h : length out ≡ 32768) {a : Checked ℕ} {left : List ℕ} where
  pub check_left : (a ≡ (check s out).answer) × (left ≡ (check s out).left) → FitsBuffer a
  unfolding check
  check_left l = left_fits (as_far_as12 s) sheet (check_fits s) out h l

  pub check_printed : (lent : ℕ) → (a ≡ (check s out).answer) × (left ≡ (check s out).left) → lent_line lent a left ≡ printed_check s lent
  unfolding check printed_check
  check_printed lent l = left_printed (as_far_as12 s) sheet (check_fits s) out h lent l

-- with the program's own 32,768 bytes lent this is the whole answer of the model
pub whole_sheet : (s : List ℕ) → printed_check s 32768 ≡ printed s
unfolding printed_check printed written_answer printed_by
whole_sheet s = go (as_far_as12 s) refl
  where
    go : (c : Checked Input) → as_far_as12 s ≡ c → printed_check s 32768 ≡ printed s
    go (refused r) e = rw e
    go (passed v) e = rw e (sym (printed_all _ 32768 (sheet v) (check_fits s v e)))

-- ---- the sheet of the merged split

-- a buffer of its own length is enough for it, and what is written in one is no longer than 32,768 bytes
merge_fits : (s : List ℕ) (v : Input) → as_far_as12 s ≡ passed v → length (sheet (merged_input v)) ≤ 32768
unfolding merge
merge_fits s v e =
    let w = sheet (merged_input v) in
    let passes : (merge s w).answer ≡ passed (length w) = rw e (ap (λ (l : Lent ℕ). l.answer) (lent_all w w (omega arith))) in
    let found = (((merges_hold s).lends w).accepts (length w)).0 passes in
    omega (arith, found.2, ap (λ (x : Input). length (sheet x)) found.1.same, ((merges_hold s).result found.1.value found.1.checked found.1.split found.1.left).fits)

module _ (s out : List ℕ) (h : length out ≡ 32768) {a : Checked ℕ} where
  pub merge_left : a ≡ (merge s out).answer → FitsBuffer a
  unfolding merge
  merge_left e = left_fits (as_far_as12 s) (λ v. sheet (merged_input v)) (merge_fits s) out h (e, refl)

  pub merge_printed : {left : List ℕ} (lent : ℕ) → (a ≡ (merge s out).answer) × (left ≡ (merge s out).left) → lent_line lent a left ≡ printed_merge s lent
  unfolding merge printed_merge
  merge_printed lent l = left_printed (as_far_as12 s) (λ v. sheet (merged_input v)) (merge_fits s) out h lent l

-- ---- the quotation

quote_fits : (s : List ℕ) (v : Input) → as_far_as12 s ≡ passed v → length (quotation v) ≤ 32768
quote_fits s v e = omega (arith, ((quoting_holds s).quoted v (((demand2 s).as_far_as_12.passes v).0 e)).2.longest)

module _ (s out : List ℕ) (h : length out ≡ 32768) {a : Checked ℕ} where
  pub quote_left : a ≡ (quote s out).answer → FitsBuffer a
  unfolding quote
  quote_left e = left_fits (as_far_as12 s) quotation (quote_fits s) out h (e, refl)

  pub quote_printed : {left : List ℕ} (lent : ℕ) → (a ≡ (quote s out).answer) × (left ≡ (quote s out).left) → lent_line lent a left ≡ printed_quote s lent
  unfolding quote printed_quote
  quote_printed lent l = left_printed (as_far_as12 s) quotation (quote_fits s) out h lent l

-- ---- the sheet that is read

sheet_fits : (s : List ℕ) (b : Board) → read_sheet s ≡ passed b → length (written_sheet b) ≤ 32768
sheet_fits s b e = (((demand1 s).loading.accepts b).0 e).1.size

module _ (s out : List ℕ) (h : length out ≡ 32768) {a : Checked ℕ} {left : List ℕ} where
  pub sheet_left : (a ≡ (rewrite s out).answer) × (left ≡ (rewrite s out).left) → FitsBuffer a
  unfolding rewrite
  sheet_left l = left_fits (read_sheet s) written_sheet (sheet_fits s) out h l

  pub sheet_printed : (lent : ℕ) → (a ≡ (rewrite s out).answer) × (left ≡ (rewrite s out).left) → lent_line lent a left ≡ printed_sheet s lent
  unfolding rewrite printed_sheet
  sheet_printed lent l = left_printed (read_sheet s) written_sheet (sheet_fits s) out h lent l
