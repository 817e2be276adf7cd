-- The answer that the code builds from the rows is the text's.
use Prim.Native.Nat.{ℕ, zero, suc, ◌+◌}
use native.Mathlib.Omega.{arith}
use mathlib.Core.Path.{◌≡◌, refl, ap, sym, subst, ◌∙◌}
use mathlib.Core.List.{List, [], ◌∷◌, ◌++◌, map, flat_map}
use mathlib.Core.Option.{Option}
use lib.ListN.{length, take, length-append, length-map}
use Rattle.model.specs.Refusal.{Refusal, Checked, refused, passed, refusal_of}
use Rattle.model.specs.TransitionSystem.{Transition}
use Rattle.model.specs.Machine.{Machine, duplicate_state}
use Rattle.model.specs.Bytes.{bytes, Name}
use Rattle.model.specs.Form.{start_of}
use Rattle.model.specs.Text.{Input, value_of, line_two, name_at, system, read}
use Rattle.model.proofs.ListLaws.{map_map}
use Rattle.model.proofs.Values.{Named, lines, numbered, input, value_of_lines}
use Rattle.rows.specs.Rows.{row, tabulate, place_row, or_no_state}
use Rattle.lines.specs.Lines.{spots, names_from, duplicate_mark}
use Rattle.model.specs.declared.Refusal as D
use Rattle.model.specs.Cases.{tabled}
use Rattle.std.specs.Prelude.{Result, Ok, Err}
use Rattle.rows.specs.declared.Counts.{Counts}
use Rattle.rows.specs.declared.Tables.{Tables}
use Rattle.rows.specs.Tables.{verdict_refusal, tables_of, tables_in, no_counts}
use Rattle.rows.specs.Told.{Told}
use Rattle.rows.proofs.Telling.{told}
use Rattle.reader.specs.Lent.{ReadsRows, AnswersRows}
use Rattle.reader.specs.Sections.{TransitionRows, with_steps, no_steps, MachineRows, with_machines, no_machines, joined, counts}

-- ---- the places of the names

module _ (f : ℕ → ℕ) where
  tabulate_cons : (n : ℕ) → tabulate f (suc n) ≡ f 0 ∷ tabulate (λ k. f (suc k)) n
  unfolding tabulate
  tabulate_cons zero = refl
  tabulate_cons (suc n) = ap (λ (l : List ℕ). l ++ (f (suc n) ∷ [])) (tabulate_cons n)

  tabulate_same : (g : ℕ → ℕ) → ((k : ℕ) → f k ≡ g k) → (n : ℕ) → tabulate f n ≡ tabulate g n
  unfolding tabulate
  tabulate_same g h zero = refl
  tabulate_same g h (suc n) = rw (h n, tabulate_same g h n)

-- the bytes of names, each after a space
abbrev spaced : List Name → List ℕ
spaced = flat_map (λ n. bytes " " ++ n)

-- the place of name k of a list of names that begins at a position
abbrev spot : ℕ → List Name → ℕ → ℕ
spot at es k = at + length (spaced (take k es)) + 1

-- the places one by one, and from the front
spots_tabled : (at : ℕ) (es : List Name) → tabulate (spot at es) (length es) ≡ spots at es
unfolding tabulate flat_map spots
spots_tabled at [] = refl
spots_tabled at (e ∷ es) =
    tabulate_cons (spot at (e ∷ es)) (length es)
    ∙ ap (λ (x : ℕ). x ∷ tabulate (λ k. spot at (e ∷ es) (suc k)) (length es)) (omega arith)
    ∙ ap (λ (l : List ℕ). (at + 1) ∷ l)
    (tabulate_same (λ k. spot at (e ∷ es) (suc k)) (spot (at + 1 + length e) es)
    (λ k. omega (arith, length-append e (spaced (take k es)))) (length es)
    ∙ spots_tabled (at + 1 + length e) es)

-- ---- the tables

module _ (s : List ℕ) (n : ℕ) (o : Option ℕ) (es : List Name) (ts : List Named) (ms : List Machine) where
  abbrev value : Input
  value = input n (start_of o) es (map (numbered es) ts) ms

  names_placed : tabulate (name_at s value) (length es) ≡ spots (names_from (line_two s)) es
  unfolding name_at names_from
  names_placed =
      tabulate_same (name_at s value) (spot (line_two s + 7) es) (λ k. omega (arith, length-append (spaced (take k es)) (bytes " "))) (length es)
      ∙ spots_tabled (line_two s + 7) es

  duplicate_marked : map (λ (m : Machine). or_no_state (duplicate_state (system value) m)) ms ≡ map (λ (m : Machine). duplicate_mark n m.places) ms
  unfolding duplicate_state duplicate_mark
  duplicate_marked = refl

  -- the rows of the lines are the tables
  tabled_value : tables_of s (value_of (lines n o es ts ms))
      ≡ joined (counts n (start_of o) (length es) (length ts) (length ms)) (row 64 0 (spots (names_from (line_two s)) es)) (row 64 0 (map length es)) (with_steps es no_steps ts) (with_machines n no_machines ms)
  unfolding tables_of with_steps with_machines row
  tabled_value =
      ap (tables_of s) (value_of_lines n o es ts ms)
      ∙ λ i. record {
        counts = counts n (start_of o) (length es) (length-map ts (numbered es) i) (length ms);
        name_at = row 64 0 (names_placed i);
        name_len = row 64 0 (map length es);
        source = row 1024 0 (map_map (λ (t : Transition). t.source) (numbered es) ts i);
        event = row 1024 0 (map_map (λ (t : Transition). t.event) (numbered es) ts i);
        target = row 1024 0 (map_map (λ (t : Transition). t.target) (numbered es) ts i);
        sizes = row 16 0 (map (λ (m : Machine). length m.places) ms);
        duplicate = row 16 256 (duplicate_marked i);
        place = row 4096 255 (flat_map (λ (m : Machine). place_row m.places) ms);
      }

-- ---- the answers

-- lines that are refused do not pass
apart : {C : Type 0} {c : Checked Input} {q : Refusal} {v : Input} → c ≡ refused q → c ≡ passed v → C
apart p e = let z : ◌≡◌ {A = ℕ} 0 1 = cc in absurd (omega arith)

passed_same : {v w : Input} → passed v ≡ passed w → v ≡ w
passed_same e = cc

-- the code's answer to a refusal
pub rows_refused : {s : List ℕ} {c : Checked Input} {why : D.Refusal} {k : Counts} {p : Tables} → c ≡ refused (tabled why) → k ≡ no_counts → AnswersRows s c (Err why) k p
unfolding verdict_refusal
rows_refused e k = record { verdict = rw e refl; rows = λ x w. apart e w; none = λ _ _. k }

-- its answer where all lines are read into rows in which nothing was stored
module _ {s : List ℕ} {c : Checked Input} {n i : ℕ} {count k j : ℕ} {ats lens : List ℕ} {before steps : TransitionRows} {unread machines : MachineRows} where
  pub rows_passed : (o : Option ℕ) (es : List Name) (ts : List Named) (ms : List Machine) → start_of o ≡ i → count ≡ length es → lens ≡ row 64 0 (map length es)
      → ats ≡ row 64 0 (spots (names_from (line_two s)) es) → before ≡ no_steps → unread ≡ no_machines → c ≡ passed (value_of (lines n o es ts ms)) → k ≡ length ts
      → steps ≡ with_steps es before ts → j ≡ length ms → machines ≡ with_machines n unread ms
      → AnswersRows s c (Ok tt) (counts n i count k j) (joined (counts n i count k j) ats lens steps machines)
  unfolding verdict_refusal
  rows_passed o es ts ms z r l a f g w p q x u =
      record {
        verdict = rw w refl;
        rows = λ y e. rw (a, ← z, r, l, p, q, f, x, u, g) (sym (tabled_value s n o es ts ms) ∙ ap (tables_of s) (passed_same (sym w ∙ e)));
        none = λ q e. apart e w;
      }

module _ (s : List ℕ) {w : Result (Unit {0}) D.Refusal} {k : Counts} {ats lens sources events targets sizes duplicates places : List ℕ} where
  pub answering_rows : AnswersRows s (read s) w k (tables_in k ats lens sources events targets sizes duplicates places)
      → (verdict_refusal w ≡ refusal_of (read s)) × ReadsRows s k ats lens sources events targets sizes duplicates places
  answering_rows a = (a.verdict, record { tables = a.rows; told = λ v e. subst (Told s v) (sym (a.rows v e)) (told s v e); none = a.none })
