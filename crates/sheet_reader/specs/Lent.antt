-- The rows of the code that hold names and moves.
use Rattle.std.specs.Prelude.{ℕ, ◌≡◌, List, T}
use Rattle.model.specs.Bytes.{Name}
use Rattle.model.specs.Text.{distinct}
use Rattle.names.specs.declared.Names.{Names}
use Rattle.names.specs.Held.{PackedNames}
use Rattle.rows.specs.declared.Moves.{Moves}
use Rattle.sheet_reader.specs.BoardRows.{Rows}

pub record Lent : Type 0 where
  pub lens : List ℕ
  pub highs : List ℕ
  pub lows : List ℕ
  pub pre : List ℕ
  pub post : List ℕ

abbrev pub lent_rows : List ℕ → List ℕ → List ℕ → List ℕ → List ℕ → Lent
lent_rows a b c d e = record { lens = a; highs = b; lows = c; pre = d; post = e }

abbrev pub lent : Names → Moves → Lent
lent n v = lent_rows n.«len» n.high n.low v.pre v.post

abbrev pub rows_of : List Name → Lent → Rows
rows_of ns t = record { names = ns; pre = t.pre; post = t.post }

-- the rows hold these names, each once
pub record Held (ns : List Name) (count : ℕ) (t : Lent) : Type 0 where
  pub packed : PackedNames ns count t.lens t.highs t.lows
  pub once : T (distinct ns)

-- the rows hold names, each once
pub record Holding (count : ℕ) (t : Lent) : Type 0 where
  pub names : List Name
  pub held : Held names count t

-- the rows hold these names and moves
pub record HoldsRows (u : Rows) (count : ℕ) (t : Lent) : Type 0 where
  pub held : Held u.names count t
  pub pre : t.pre ≡ u.pre
  pub post : t.post ≡ u.post
