-- What is left to be printed, by what the words say.
use Prim.Native.Nat.{ℕ, ◌<◌}
use mathlib.Core.Path.{◌≡◌, refl, ap, sym, ◌∙◌, subst}
use mathlib.Core.Logic.{◌⊎◌, inl, inr}
use mathlib.Core.List.{List, [], ◌∷◌, flat_map}
use mathlib.Core.Option.{Option, none, some, map}
use native.Mathlib.Omega.{arith}
use lib.ListN.{length, take, length-take}
use lib.Seq.{length-take-le}
use Rattle.model.specs.BoardTable.{ended}
use Rattle.model.specs.Refusal.{Checked}
use Rattle.model.specs.Services.{check, merge, quote}
use Rattle.model.specs.Board.{rewrite}
use Rattle.model.specs.Printed.{printed_check, printed_merge, printed_quote, printed_sheet, printed_thin, printed_board}
use Rattle.printing.proofs.Checking.{check_printed, merge_printed, quote_printed, sheet_printed, whole_sheet}
use Rattle.printing.specs.Shown.{Shows, lent_line}
use Rattle.std.specs.Prelude.{Some, None, unwrap_or}
use Rattle.std.specs.Prelude as Std
use Rattle.command_line.specs.declared.Service.{Service}
use Rattle.command_line.specs.declared.Service.TheVariants.{Check, Merge, Quote, Sheet, Thin, Board, Help, Explain, Unknown}
use Rattle.command_line.specs.Words.{said}
use Rattle.command_line.specs.WordRow.{words_in, list_said, Lists}
use Rattle.command_line.specs.Program.{size_said, answer_thin, answer_by, answer_to, output_of, service_asked, further_words}
use Rattle.command_line.proofs.Cutting.{words, no_words, some_words}
use Rattle.command_line.proofs.Cutting as Cutting
use Rattle.answering.specs.Left.{LeavesBytes}

-- the same answer, whatever it is called
pub shows_answer : {o q : Option (List ℕ)} {r : Std.Option ℕ} {out : List ℕ} → o ≡ q → Lists o r out → Lists q r out
shows_answer {r = r} {out} e w = subst (λ (x : Option (List ℕ)). Lists x r out) e w

pub shows_none : {o : Option (List ℕ)} {out : List ℕ} → none ≡ o → Lists o None out
unfolding list_said
shows_none e = record { list = e; within = λ n q. cc }

pub shows_some : {word : List ℕ} {o : Option (List ℕ)} {n : ℕ} {out : List ℕ} → some word ≡ o → Shows word n out → Lists o (Some n) out
unfolding list_said
shows_some {word} {o} {n} {out} e w =
    record {
      list = ap some w.shown ∙ e;
      within = λ k q. let z : n ≡ k = cc in omega (arith, w.size, ap length w.shown, length-take n out);
    }

-- as bytes of the buffer: none where there is no answer
pub answer_shown : {o : Option (List ℕ)} {r : Std.Option ℕ} {out : List ℕ} → Lists o r out → length out ≡ 32768 → Shows (output_of o) (unwrap_or r 0) out
unfolding list_said output_of
answer_shown {r = None} {out} l h = subst (λ (x : Option (List ℕ)). Shows (output_of x) 0 out) l.list (record { size = refl; shown = refl; buffer = h })
answer_shown {r = Some n} {out} l h =
    subst (λ (x : Option (List ℕ)). Shows (output_of x) n out) l.list (record { size = sym (length-take-le n out (l.within n refl)); shown = refl; buffer = h })

-- nothing is printed, or f with what the words say
pub printed_none : {A : Type 0} (f : A → List ℕ) {o : Option A} → none ≡ o → none ≡ map f o
printed_none f e = ap (map f) e

pub printed_some : {A : Type 0} (f : A → List ℕ) {a : A} {o : Option A} → some a ≡ o → some (f a) ≡ map f o
printed_some f e = ap (map f) e

-- the same is printed of whatever is said
pub printed_same : {A : Type 0} (f g : A → List ℕ) → ((a : A) → f a ≡ g a) → (o : Option A) → map f o ≡ map g o
printed_same f g h none = refl
printed_same f g h (some a) = ap some (h a)

-- a word is a number, or none
pub says_none : {r : Std.Option ℕ} {o : Option ℕ} → r ≡ None → said r ≡ o → none ≡ o
unfolding said
says_none e q = sym (ap said e) ∙ q

pub says_some : {r : Std.Option ℕ} {k : ℕ} {o : Option ℕ} → r ≡ Some k → said r ≡ o → some k ≡ o
unfolding said
says_some e q = sym (ap said e) ∙ q

-- the service that was asked for, by its case
pub asked_as : {asked a : Service} (ws : List (List ℕ)) (s : List ℕ) → asked ≡ a → answer_by a ws s ≡ answer_by asked ws s
asked_as ws s e = ap (λ (x : Service). answer_by x ws s) (sym e)

-- ---- calls that lend bytes

module _ (s out : List ℕ) (h : length out ≡ 32768) (ws : List (List ℕ)) {a : Checked ℕ} {left : List ℕ} where
  pub check_said : (a ≡ (check s out).answer) × (left ≡ (check s out).left) → map (λ n. lent_line n a left) (size_said 32768 ws) ≡ answer_by Check ws s
  unfolding answer_by
  check_said l = printed_same (λ n. lent_line n a left) (printed_check s) (λ n. check_printed s out h n l) (size_said 32768 ws)

  pub merge_said : (a ≡ (merge s out).answer) × (left ≡ (merge s out).left) → map (λ n. lent_line n a left) (size_said 32768 ws) ≡ answer_by Merge ws s
  unfolding answer_by
  merge_said l = printed_same (λ n. lent_line n a left) (printed_merge s) (λ n. merge_printed s out h n l) (size_said 32768 ws)

  pub quote_said : (a ≡ (quote s out).answer) × (left ≡ (quote s out).left) → map (λ n. lent_line n a left) (size_said 32768 ws) ≡ answer_by Quote ws s
  unfolding answer_by
  quote_said l = printed_same (λ n. lent_line n a left) (printed_quote s) (λ n. quote_printed s out h n l) (size_said 32768 ws)

  pub sheet_said : (a ≡ (rewrite s out).answer) × (left ≡ (rewrite s out).left) → map (λ n. lent_line n a left) (size_said 32768 ws) ≡ answer_by Sheet ws s
  unfolding answer_by
  sheet_said l = printed_same (λ n. lent_line n a left) (printed_sheet s) (λ n. sheet_printed s out h n l) (size_said 32768 ws)

-- none of the others
pub is_check : {asked : Service} → LeavesBytes asked → ¬ (asked ≡ Merge) → ¬ (asked ≡ Quote) → ¬ (asked ≡ Sheet) → asked ≡ Check
is_check (inl e) m q t = e
is_check (inr (inl e)) m q t = absurd (m e)
is_check (inr (inr (inl e))) m q t = absurd (q e)
is_check (inr (inr (inr e))) m q t = absurd (t e)

-- none of them is answered where the words are no size
pub no_size : {asked : Service} (ws : List (List ℕ)) (s : List ℕ) → LeavesBytes asked → none ≡ size_said 32768 ws → none ≡ answer_by asked ws s
unfolding answer_by
no_size ws s (inl e) q = printed_none (printed_check s) q ∙ asked_as ws s e
no_size ws s (inr (inl e)) q = printed_none (printed_merge s) q ∙ asked_as ws s e
no_size ws s (inr (inr (inl e))) q = printed_none (printed_quote s) q ∙ asked_as ws s e
no_size ws s (inr (inr (inr e))) q = printed_none (printed_sheet s) q ∙ asked_as ws s e

-- ---- thin

pub thin_alone : (row s : List ℕ) → length row ≡ 0 → some (printed_thin s) ≡ answer_by Thin (words_in row) s
unfolding answer_by answer_thin
thin_alone row s h = sym (ap (λ (ws : List (List ℕ)). answer_thin ws s) (no_words row h))

pub thin_more : (row s : List ℕ) → 0 < length row → none ≡ answer_by Thin (words_in row) s
unfolding answer_by answer_thin
thin_more row s h = go (some_words row h)
  where
    go : Cutting.Some (words_in row) → none ≡ answer_thin (words_in row) s
    go (words w vs e) = sym (ap (λ (ws : List (List ℕ)). answer_thin ws s) e)

-- ---- board

pub names_listed : (row : List ℕ) {list : List ℕ} (s : List ℕ) → list ≡ flat_map ended (words_in row) → some (printed_board s list) ≡ answer_by Board (words_in row) s
unfolding answer_by
names_listed row s e = ap (λ (t : List ℕ). some (printed_board s t)) e

-- ---- the service

-- with no word as with `check` alone
pub no_word : (s : List ℕ) → answer_to [] s ≡ answer_by Check [] s
unfolding answer_to answer_by size_said
no_word s = ap some (sym (whole_sheet s))

by_service : (ws : List (List ℕ)) (s : List ℕ) → answer_by (service_asked ws) (further_words ws) s ≡ answer_to ws s
unfolding answer_to service_asked further_words
by_service [] s = sym (no_word s)
by_service (w ∷ ws) s = refl

pub answered : (ws : List (List ℕ)) {vs : List (List ℕ)} (s : List ℕ) {asked : Service} → asked ≡ service_asked ws → vs ≡ further_words ws
    → answer_by asked vs s ≡ answer_to ws s
answered ws {vs} s {asked} e q =
    ap (λ (a : Service). answer_by a vs s) e ∙ ap (λ (x : List (List ℕ)). answer_by (service_asked ws) x s) q ∙ by_service ws s

-- what is no service of the library's
pub no_service : {asked : Service} (ws : List (List ℕ)) (s : List ℕ) → (asked ≡ Help) ⊎ ((asked ≡ Explain) ⊎ (asked ≡ Unknown)) → none ≡ answer_by asked ws s
unfolding answer_by
no_service ws s (inl e) = asked_as ws s e
no_service ws s (inr (inl e)) = asked_as ws s e
no_service ws s (inr (inr e)) = asked_as ws s e

-- words are a list of numbers, or none
pub lists_none : {r : Std.Option ℕ} {o : Option (List ℕ)} {row : List ℕ} → r ≡ None → Lists o r row → none ≡ o
unfolding list_said
lists_none {row = row} e l = sym (ap (λ (x : Std.Option ℕ). list_said x row) e) ∙ l.list

pub lists_some : {r : Std.Option ℕ} {k : ℕ} {o : Option (List ℕ)} {row : List ℕ} → r ≡ Some k → Lists o r row → some (take k row) ≡ o
unfolding list_said
lists_some {row = row} e l = sym (ap (λ (x : Std.Option ℕ). list_said x row) e) ∙ l.list
