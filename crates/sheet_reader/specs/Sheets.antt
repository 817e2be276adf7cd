-- What reading a sheet leaves in the rows.
use Rattle.std.specs.Prelude.{ℕ, ◌≤◌, ◌≡◌, List, [], length, replicate, Result, Ok, Err}
use Rattle.model.specs.Refusal.{refuse, Checked, refused, passed}
use Rattle.model.specs.Sheet.{Board}
use Rattle.model.specs.Board.{read_sheet, start_places}
use Rattle.rows.specs.Rows.{row}
use Rattle.model.specs.declared.Refusal as D
use Rattle.model.specs.declared.Refusal.TheVariants.{BadSheet}
use Rattle.sheet_reader.specs.declared.SheetRows.{SheetRows}
use Rattle.sheet_reader.specs.Lent.{Lent, lent}
use Rattle.sheet_reader.specs.Lines.{Told}

-- nothing is stored yet
pub record FreshBoard (t : Lent) (ps : List ℕ) : Type 0 where
  pub lens : t.lens ≡ row 64 0 []
  pub highs : t.highs ≡ row 64 0 []
  pub lows : t.lows ≡ row 64 0 []
  pub pre : t.pre ≡ replicate 1024 255
  pub post_size : length t.post ≡ 1024
  pub places : ps ≡ row 16 0 []

pub record FreshSheet (x : SheetRows) : Type 0 where
  pub no_names : x.names.count ≡ 0
  pub rows : FreshBoard (lent x.names x.moves) x.starts

-- 15 with the line, or the machines read: their count, the names, the rows and the start places
unfoldable pub SheetLeft : Checked Board → Result ℕ D.Refusal → ℕ → Lent → List ℕ → Type 0
SheetLeft (refused q) r names u places = (line : ℕ) × (r ≡ Err (BadSheet line)) × (q ≡ refuse 15 line 0)
SheetLeft (passed b) r names u places = (r ≡ Ok (length b)) × (length b ≤ 16) × (names ≤ 64) × Told b names u × (places ≡ row 16 0 (start_places b))

pub record ReadsSheet (s : List ℕ) (r : Result ℕ D.Refusal) (names : ℕ) (u : Lent) (places : List ℕ) : Type 0 where
  pub left : SheetLeft (read_sheet s) r names u places
