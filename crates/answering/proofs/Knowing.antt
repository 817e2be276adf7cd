-- The names that count: those of the text checked as far as 7. As far as 12 they are the same, or the text is refused, and then which events are meant is open.
use Prim.Native.Nat.{ℕ}
use native.Mathlib.Omega.{arith}
use mathlib.Core.Path.{◌≡◌, refl, ap, sym, ◌∙◌}
use mathlib.Core.Bool.{Bool, true, false, cond}
use mathlib.Core.List.{List, [], ◌∷◌}
use mathlib.Core.Option.{Option, none, some, map}
use Rattle.model.specs.declared.Refusal as D
use Rattle.model.specs.Bytes as B
use Rattle.model.specs.Cases.{tabled}
use Rattle.model.specs.Refusal.{Refusal, Checked, refused, passed}
use Rattle.model.specs.Machine.{machines_refusal, cover_refusal}
use Rattle.model.specs.Text.{Input, system, event_number}
use Rattle.model.specs.Services.{as_far_as7, as_far_as10, as_far_as12, written_refusal}
use Rattle.model.specs.Printed.{printed_by, printed_run}
use Rattle.model.proofs.Verdicts.{passed_clear}
use Rattle.std.specs.Prelude.{Ok, Err}
use Rattle.std.specs.Prelude as Std
use Rattle.rows.specs.declared.Tables.{Tables}
use Rattle.rows.specs.Bounded.{NamesInside}
use Rattle.rows.specs.Names.{names_in}
use Rattle.rows.proofs.Names.{told_names}
use Rattle.rows.proofs.Verdicts.{lets_pass, refused_as}
use Rattle.stages.specs.Stages.{ReadAsFarAs7, ReadAsFarAs12, Held}
use Rattle.stages.proofs.Stages.{refused_text, past_text, past_12}
use Rattle.command_line.specs.Names.{NameRows}
use Rattle.command_line.specs.WordRow.{words_in}
use Rattle.command_line.specs.Words.{is_name_word, number_said, event_said}
use Rattle.command_line.specs.Program.{one_event_said, before, events_said, names_of}
use Rattle.answering.specs.Known.{known_names}

-- ---- the rows of names

no_rows : (s ats lens : List ℕ) → NameRows s ats lens 0
unfolding NamesInside
no_rows s ats lens = record { most = omega arith; at_size = omega arith; len_size = omega arith; inside = λ e l. absurd (omega arith) }

held_rows : {s : List ℕ} {c : Checked Input} {p : Tables} → Held c s p → NameRows s p.name_at p.name_len p.counts.events
held_rows h =
    record { most = h.bounds.events; at_size = omega (arith, h.bounds.events, h.sized.name_places); len_size = omega (arith, h.bounds.events, h.sized.name_lengths); inside = h.names }

names_refused : {c : Checked Input} {q : Refusal} → c ≡ refused q → [] ≡ names_of c
unfolding names_of
names_refused e = sym (ap names_of e)

names_passed : {c : Checked Input} {v : Input} → c ≡ passed v → v.names ≡ names_of c
unfolding names_of
names_passed e = sym (ap names_of e)

-- ---- as far as 7

module _ (s : List ℕ) (p : Tables) {n : ℕ} where
  pub rows_7 : (r : Std.Result (Unit {0}) D.Refusal) → ReadAsFarAs7 s r p → n ≡ known_names r p.counts.events → NameRows s p.name_at p.name_len n
  unfolding known_names
  rows_7 (Err why) h k = rw k (no_rows s p.name_at p.name_len)
  rows_7 (Ok u) h k = rw k (held_rows (h.held (lets_pass refl)))

  pub names_7 : (r : Std.Result (Unit {0}) D.Refusal) → ReadAsFarAs7 s r p → n ≡ known_names r p.counts.events
      → names_in s p.name_at p.name_len n ≡ names_of (as_far_as7 s)
  unfolding known_names names_in
  names_7 (Err why) h k = rw k (names_refused (refused_as h.verdict refl))
  names_7 (Ok u) h k = let q = h.held (lets_pass refl) in rw k (told_names s q.value p q.told ∙ names_passed q.passes)

-- ---- as far as 12

-- two words of which both say something, or none
data Alike {A : Type 0} : Option A → Option A → Type 0 where
  nothing : Alike none none
  something : (a b : A) → Alike (some a) (some b)

alike_same : {A : Type 0} (o : Option A) → Alike o o
alike_same none = nothing
alike_same (some a) = something a a

-- whether a word says an event does not hang on the names
alike_event : (names others : List B.Name) (w : List ℕ) → Alike (event_said names w) (event_said others w)
unfolding event_said
alike_event names others w = go (is_name_word w)
  where
    go : (t : Bool) → Alike (cond t (some (event_number names w)) (number_said 255 w)) (cond t (some (event_number others w)) (number_said 255 w))
    go true = something (event_number names w) (event_number others w)
    go false = alike_same (number_said 255 w)

alike_before : {o q : Option ℕ} {es fs : Option (List ℕ)} → Alike o q → Alike es fs → Alike (before o es) (before q fs)
unfolding before
alike_before nothing h = nothing
alike_before (something a b) nothing = nothing
alike_before (something a b) (something es fs) = something (a ∷ es) (b ∷ fs)

alike_events : (names others : List B.Name) (ws : List (List ℕ)) → Alike (events_said names ws) (events_said others ws)
unfolding events_said
alike_events names others [] = something [] []
alike_events names others (w ∷ ws) = alike_before (alike_event names others w) (alike_events names others ws)

-- what is printed is then one, if it does not hang on the events
alike_printed : {A : Type 0} (f : A → List ℕ) (word : List ℕ) → ((a : A) → f a ≡ word) → {o q : Option A} → Alike o q → map f o ≡ map f q
alike_printed f word h nothing = refl
alike_printed f word h (something a b) = ap some (h a ∙ sym (h b))

run_refused : (s : List ℕ) {r : Refusal} → as_far_as12 s ≡ refused r → (es : List ℕ) → printed_run s es ≡ written_refusal r
unfolding printed_run printed_by
run_refused s e es = rw e

-- what passes 12 passes 7
passes_7 : (s : List ℕ) (v : Input) → as_far_as12 s ≡ passed v → as_far_as7 s ≡ passed v
unfolding as_far_as12 as_far_as10
passes_7 s v e =
    (passed_clear (as_far_as7 s) (λ w. machines_refusal (system w) 0 w.machines) v
    (passed_clear (as_far_as10 s) (λ w. cover_refusal (system w) w.machines) v e).0).0

module _ (s : List ℕ) (p : Tables) {pre post excited : List ℕ} {n : ℕ} where
  pub rows_12 : (r : Std.Result (Unit {0}) D.Refusal) → ReadAsFarAs12 s r p pre post excited → n ≡ known_names r p.counts.events → NameRows s p.name_at p.name_len n
  unfolding known_names
  rows_12 (Err why) h k = rw k (no_rows s p.name_at p.name_len)
  rows_12 (Ok u) h k = rw k (held_rows (past_text h refl).past.held)

  pub events_12 : (r : Std.Result (Unit {0}) D.Refusal) → ReadAsFarAs12 s r p pre post excited → n ≡ known_names r p.counts.events → (ws : List (List ℕ))
      → map (printed_run s) (events_said (names_in s p.name_at p.name_len n) ws) ≡ map (printed_run s) (events_said (names_of (as_far_as7 s)) ws)
  unfolding known_names
  events_12 (Err why) h k ws =
      alike_printed (printed_run s) (written_refusal (tabled why)) (run_refused s (refused_text h refl))
      (alike_events (names_in s p.name_at p.name_len n) (names_of (as_far_as7 s)) ws)
  events_12 (Ok u) h k ws =
      let j = past_text h refl in
      rw k
      (ap (λ (x : List B.Name). map (printed_run s) (events_said x ws))
      (told_names s j.past.held.value p j.past.held.told ∙ names_passed (passes_7 s j.past.held.value (past_12 j))))

-- ---- one event

pub one_event : (row : List ℕ) {names others : List B.Name} → names ≡ others → one_event_said names (words_in row) ≡ one_event_said others (words_in row)
one_event row e = ap (λ (x : List B.Name). one_event_said x (words_in row)) e
