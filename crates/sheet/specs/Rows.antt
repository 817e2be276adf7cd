-- The sheet by counts and rows that are lent one by one, whatever stands in the rows that it does not look at.
use Rattle.std.specs.Prelude.{ℕ, ◌≤◌, ◌<◌, ◌≡◌, List, [], length}
use Rattle.std.proofs.lemmas.List.Edits.{sets}
use Rattle.rows.specs.declared.Counts.{Counts}
use Rattle.rows.specs.declared.Tables.{Tables}
use Rattle.rows.specs.Tables.{tables_in}
use Rattle.rows.specs.Told.{entry}
use Rattle.rows.specs.Bounded.{NamesInside}
use Rattle.regions.specs.Moves.{MoveRows}
use Rattle.sheet.specs.Written.{row_sheet}

-- of the bounds of `Bounded` those that a sheet needs, and the sizes of the rows
pub record SheetBounds (c : Counts) (lens sizes places : List ℕ) : Type 0 where
  pub states : c.states ≤ 256
  pub initial : c.initial < c.states
  pub events : c.events ≤ 64
  pub names : (e : ℕ) → e < c.events → entry lens e ≤ 16
  pub machines : c.machines ≤ 16
  pub place_counts : (k : ℕ) → k < c.machines → entry sizes k ≤ 64
  pub lens_size : length lens ≡ 64
  pub sizes_size : length sizes ≡ 16
  pub places_size_lem : length places ≡ 4096

-- the rows that a sheet looks at
abbrev pub sheet_rows : Counts → List ℕ → List ℕ → List ℕ → List ℕ → Tables
sheet_rows c ats lens sizes places = tables_in c ats lens [] [] [] sizes [] places

-- all that a sheet is made of is at hand
abbrev pub SheetReady : List ℕ → Counts → List ℕ → List ℕ → List ℕ → List ℕ → List ℕ → List ℕ → Type 0
SheetReady s c ats lens sizes places pre post =
    SheetBounds c lens sizes places × (length ats ≡ 64) × MoveRows pre post × NamesInside s ats lens c.events

-- how many bytes the sheet has
abbrev pub sheet_size : List ℕ → Counts → List ℕ → List ℕ → List ℕ → List ℕ → List ℕ → List ℕ → ℕ
sheet_size s c ats lens sizes places pre post = length (row_sheet s (sheet_rows c ats lens sizes places) pre post)

-- the length of the sheet, of any text that has names of these lengths
abbrev pub SheetLength : Counts → List ℕ → List ℕ → List ℕ → List ℕ → List ℕ → ℕ → Type 0
SheetLength c lens sizes places pre post r =
    (s ats sources events targets duplicates : List ℕ) → NamesInside s ats lens c.events
    → r ≡ length (row_sheet s (tables_in c ats lens sources events targets sizes duplicates places) pre post)

-- the sheet stands at the beginning of a buffer, and the rest of it is as it was
abbrev pub SheetLeft : List ℕ → Counts → List ℕ → List ℕ → List ℕ → List ℕ → List ℕ → List ℕ → List ℕ → List ℕ → Type 0
SheetLeft s c ats lens sizes places pre post out left =
    (sources events targets duplicates : List ℕ)
    → left ≡ sets out 0 (row_sheet s (tables_in c ats lens sources events targets sizes duplicates places) pre post)
