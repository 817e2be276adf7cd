-- What reading a machine's line leaves in the rows.
use Rattle.std.specs.Prelude.{ℕ, ◌≤◌, ◌≡◌, List, [], ◌∷◌, ◌++◌, T, length, Result, Ok, IsErr}
use Rattle.model.specs.Bytes.{Name}
use Rattle.model.specs.Reading.{Parsed, got}
use Rattle.model.specs.Sheet.{NamedLine, Board, line_form}
use Rattle.model.specs.Board.{is_good_line}
use Rattle.sheet_reader.specs.declared.machine_line.LineAt.{LineAt}
use Rattle.sheet_reader.specs.declared.moves.BadLine.{BadLine}
use Rattle.sheet_reader.specs.BoardRows.{TellsBoard}
use Rattle.sheet_reader.specs.Lent.{Lent, rows_of, Held}

-- the rows tell the machines of these lines
pub record Told (b : Board) (count : ℕ) (t : Lent) : Type 0 where
  pub names : List Name
  pub held : Held names count t
  pub tells : TellsBoard b (rows_of names t)

-- a good line stands there, or none; c entries of the rows hold names then
pub data LineLeft (b : Board) (o : Parsed NamedLine) (r : Result LineAt BadLine) (c : ℕ) (u : Lent) : Type 0 where
  good : (l : NamedLine) (x : LineAt) → r ≡ Ok x → o ≡ got l x.next → T (is_good_line b l) → c ≤ 64 → x.start ≡ l.start → Told (b ++ (l ∷ [])) c u
      → LineLeft b o r c u
  bad : IsErr r → ((l : NamedLine) (next : ℕ) → o ≡ got l next → ¬ T (is_good_line b l)) → LineLeft b o r c u

pub record ReadsLine (s : List ℕ) (at m count : ℕ) (t : Lent) (r : Result LineAt BadLine) (c : ℕ) (u : Lent) : Type 0 where
  pub left : (b : Board) → m ≡ length b → Told b count t → LineLeft b (line_form s at) r c u
