-- An answer has at least one byte: no byte is printed only where there is none.
use Prim.Native.Nat.{ℕ, ◌<◌, ◌≤◌}
use native.Mathlib.Omega.{arith}
use mathlib.Core.Path.{◌≡◌, refl, sym, ◌∙◌, subst}
use mathlib.Core.Logic.{◌⊎◌, inl, inr}
use mathlib.Core.List.{List, [], ◌∷◌, flat_map}
use mathlib.Core.Option.{Option, none, some, map, some-injective, none-ne-some}
use lib.ListN.{length, take, drop, length-append}
use Rattle.model.specs.declared.Refusal.TheVariants.{BufferTooShort}
use Rattle.model.specs.Cases.{tabled}
use Rattle.model.specs.Refusal.{Refusal, Checked, refused, passed, ◌>>=◌}
use Rattle.model.specs.TransitionSystem.{Transition}
use Rattle.model.specs.Product.{Ran}
use Rattle.model.specs.Bytes as B
use Rattle.model.specs.Bytes.{bytes}
use Rattle.model.specs.Text.{Input}
use Rattle.model.specs.Sheet.{written_count, written_sheet, board_of, sheet}
use Rattle.model.specs.Sheet as Sheets
use Rattle.model.specs.Merging.{merged_input}
use Rattle.model.specs.Quotation.{Charge, written_charge, total, written_total, written_charges, quotation}
use Rattle.model.specs.Board.{read_sheet, run_board}
use Rattle.model.specs.BoardTable.{ended}
use Rattle.model.specs.Services.{Part, Kept, as_far_as7, as_far_as12, name, run_input, thin, written_refusal}
use Rattle.model.specs.Printed.{printed_by, fitting, printed_check, transition_lines, printed_steps, name_line, printed_name, ran_word, places_word, ran_line, printed_run, kept_line, printed_thin, printed_merge, printed_quote, printed_sheet, printed_board}
use Rattle.command_line.specs.declared.Service.{Service}
use Rattle.command_line.specs.declared.Service.TheVariants.{Check, Steps, Name, Run, Thin, Merge, Quote, Sheet, Board, Help, Explain, Unknown}
use Rattle.command_line.specs.Words.{service_said}
use Rattle.command_line.specs.Program.{size_said, one_event_said, events_said, names_of, answer_thin, answer_by, answer_to}
use Rattle.model.proofs.Laws.{order}
use Rattle.printing.proofs.Showing.{printed_short, printed_all}
use Rattle.answering.proofs.Saying.{no_word}

refusal_speaks : (r : Refusal) → 0 < length (written_refusal r)
unfolding written_refusal
refusal_speaks r = omega arith

printed_speaks : {A : Type 0} (f : A → List ℕ) → ((a : A) → 0 < length (f a)) → (c : Checked A) → 0 < length (printed_by f c)
unfolding printed_by
printed_speaks f h (refused r) = refusal_speaks r
printed_speaks f h (passed a) = h a

steps_speak : (ts : List Transition) → 0 < length (transition_lines ts)
unfolding transition_lines
steps_speak ts = omega arith

name_speaks : (s : List ℕ) (p : Part) → 0 < length (name_line s p)
unfolding name_line
name_speaks s p = omega (arith, length-append (take p.size (drop p.from s)) (bytes "\n"))

word_speaks : (n : ℕ) (o : Option ℕ) → 0 < length (ran_word n o)
unfolding ran_word
word_speaks n none = omega arith
word_speaks n (some m) = omega arith

run_speaks : (r : Ran) → 0 < length (ran_line r)
unfolding ran_line
run_speaks r = omega (arith, word_speaks r.ran r.blocked, length-append (ran_word r.ran r.blocked) (places_word r.places))

kept_speaks : (k : Kept) → 0 < length (kept_line k)
unfolding kept_line
kept_speaks k = omega arith

sheet_speaks : (b : Sheets.Board) → 0 < length (written_sheet b)
unfolding written_sheet written_count
sheet_speaks b = omega arith

-- what is lent suffices, or the refusal says how much is needed
fitting_speaks : (lent : ℕ) (xs : List ℕ) → 0 < length xs → 0 < length (printed_by (λ w. w) (fitting lent xs))
fitting_speaks lent xs h = go (order lent (length xs))
  where
    go : (lent < length xs) ⊎ (length xs ≤ lent) → 0 < length (printed_by (λ w. w) (fitting lent xs))
    go (inl l) = subst (λ (w : List ℕ). 0 < length w) (printed_short (λ w. w) lent xs refl l) (refusal_speaks (tabled (BufferTooShort (length xs))))
    go (inr l) = subst (λ (w : List ℕ). 0 < length w) (printed_all (λ w. w) lent xs l) h

bytes_speak : {A : Type 0} (f : A → List ℕ) → ((v : A) → 0 < length (f v)) → (lent : ℕ) (c : Checked A) → 0 < length (printed_by (λ w. w) (c >>= λ v. fitting lent (f v)))
unfolding printed_by
bytes_speak f h lent (refused r) = refusal_speaks r
bytes_speak f h lent (passed v) = fitting_speaks lent (f v) (h v)

-- a sheet is printed, a text's or the one that is read
lent_speaks : {A : Type 0} (f : A → Sheets.Board) (lent : ℕ) (c : Checked A) → 0 < length (printed_by (λ w. w) (c >>= λ v. fitting lent (written_sheet (f v))))
lent_speaks f lent c = bytes_speak (λ v. written_sheet (f v)) (λ v. sheet_speaks (f v)) lent c

check_speaks : (s : List ℕ) (lent : ℕ) → 0 < length (printed_check s lent)
unfolding printed_check sheet
check_speaks s lent = lent_speaks board_of lent (as_far_as12 s)

merge_speaks : (s : List ℕ) (lent : ℕ) → 0 < length (printed_merge s lent)
unfolding printed_merge sheet
merge_speaks s lent = lent_speaks (λ v. board_of (merged_input v)) lent (as_far_as12 s)

-- the total's line is always there
charges_speak : (names : List B.Name) (cs : List Charge) → 0 < length (written_charges names cs)
unfolding written_charges written_total
charges_speak names cs = omega (arith, length-append (flat_map (written_charge names) cs) (written_total (total cs)))

quotation_speaks : (v : Input) → 0 < length (quotation v)
unfolding quotation
quotation_speaks v = charges_speak v.names _

quote_speaks : (s : List ℕ) (lent : ℕ) → 0 < length (printed_quote s lent)
unfolding printed_quote
quote_speaks s lent = bytes_speak quotation quotation_speaks lent (as_far_as12 s)

sheet_printed : (s : List ℕ) (lent : ℕ) → 0 < length (printed_sheet s lent)
unfolding printed_sheet
sheet_printed s lent = lent_speaks (λ b. b) lent (read_sheet s)

board_printed : (s t : List ℕ) → 0 < length (printed_board s t)
unfolding printed_board
board_printed s t = printed_speaks ran_line run_speaks (read_sheet s >>= λ b. run_board b t)

steps_printed : (s : List ℕ) (lent : ℕ) → 0 < length (printed_steps s lent)
unfolding printed_steps
steps_printed s lent = printed_speaks transition_lines steps_speak _

-- ---- any answer

mapped : {A : Type 0} (f : A → List ℕ) → ((a : A) → 0 < length (f a)) → (o : Option A) (word : List ℕ) → map f o ≡ some word → 0 < length word
mapped f h none word e = absurd (none-ne-some word e)
mapped f h (some a) word e = subst (λ (w : List ℕ). 0 < length w) (some-injective (f a) word e) (h a)

nothing_said : {word : List ℕ} → none ≡ some word → 0 < length word
nothing_said {word} e = absurd (none-ne-some word e)

thin_answer : (ws : List (List ℕ)) (s word : List ℕ) → answer_thin ws s ≡ some word → 0 < length word
unfolding answer_thin printed_thin
thin_answer [] s word e = mapped (λ (c : Checked Kept). printed_by kept_line c) (printed_speaks kept_line kept_speaks) (some (thin s)) word e
thin_answer (w ∷ ws) s word e = nothing_said e

by_answer : (asked : Service) (ws : List (List ℕ)) (s word : List ℕ) → answer_by asked ws s ≡ some word → 0 < length word
unfolding answer_by printed_name printed_run
by_answer Check ws s word e = mapped (printed_check s) (check_speaks s) (size_said 32768 ws) word e
by_answer Steps ws s word e = mapped (printed_steps s) (steps_printed s) (size_said 1024 ws) word e
by_answer Name ws s word e =
    mapped (printed_name s) (λ k. printed_speaks (name_line s) (name_speaks s) (name s k)) (one_event_said (names_of (as_far_as7 s)) ws) word e
by_answer Run ws s word e =
    mapped (printed_run s) (λ es. printed_speaks ran_line run_speaks (as_far_as12 s >>= λ v. run_input v es)) (events_said (names_of (as_far_as7 s)) ws) word e
by_answer Thin ws s word e = thin_answer ws s word e
by_answer Merge ws s word e = mapped (printed_merge s) (merge_speaks s) (size_said 32768 ws) word e
by_answer Quote ws s word e = mapped (printed_quote s) (quote_speaks s) (size_said 32768 ws) word e
by_answer Sheet ws s word e = mapped (printed_sheet s) (sheet_printed s) (size_said 32768 ws) word e
by_answer Board ws s word e = mapped (printed_board s) (board_printed s) (some (flat_map ended ws)) word e
by_answer Help ws s word e = nothing_said e
by_answer Explain ws s word e = nothing_said e
by_answer Unknown ws s word e = nothing_said e

pub answer_speaks : (ws : List (List ℕ)) (s word : List ℕ) → answer_to ws s ≡ some word → 0 < length word
unfolding answer_to
answer_speaks [] s word e = by_answer Check [] s word (sym (no_word s) ∙ e)
answer_speaks (w ∷ ws) s word e = by_answer (service_said w) ws s word e
