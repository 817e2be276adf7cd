-- What storing a move, and reading moves, leaves in the rows.
use Rattle.std.specs.Prelude.{ℕ, ◌≤◌, ◌≡◌, Bool, true, false, not, ◌&&◌, List, length, set, Some, None, Result, Ok, Err, IsErr}
use Rattle.std.specs.Prelude as Std
use Rattle.std.proofs.Math.Option.{Option, none, some}
use Rattle.model.specs.Lists.{is_some}
use Rattle.model.specs.Bytes.{Name, IsName}
use Rattle.model.specs.Reading.{Parsed, fail, got, many}
use Rattle.model.specs.Sheet.{NamedMove, move_form}
use Rattle.model.specs.Board.{good_ends}
use Rattle.lexer.specs.Words as Words
use Rattle.regions.specs.Moves.{move_at}
use Rattle.sheet_lines.specs.declared.MoveLine.{MoveLine}
use Rattle.sheet_reader.specs.declared.moves.BadLine.{BadLine}
use Rattle.sheet_reader.specs.BoardRows.{Rows, cell, store_move, store_moves}
use Rattle.sheet_reader.specs.Lent.{Lent, rows_of, Held, HoldsRows}

-- the move of event e from p to q on machine m, which has n places
pub record StoresMove (m n e p q : ℕ) (pre post : List ℕ) (r : Bool) (pre' post' : List ℕ) : Type 0 where
  pub tested : r ≡ (good_ends n p q && not (is_some (move_at pre post m e)))
  pub pre_set : r ≡ true → pre' ≡ set pre (cell e m) p
  pub post_set : r ≡ true → post' ≡ set post (cell e m) q

-- what became of a move: whether it is stored, and how many names there are then
unfoldable pub Leaves : Option Rows → Bool → ℕ → Lent → Type 0
Leaves none r c u = r ≡ false
Leaves (some v) r c u = (r ≡ true) × HoldsRows v c u

-- the words are those of the event's name
pub record IsWord (x : MoveLine) (e : Name) : Type 0 where
  pub name : IsName e
  pub long : x.name.«len» ≡ length e
  pub high : x.name.«high» ≡ Words.high e
  pub low : x.name.«low» ≡ Words.low e

abbrev pub move_of : Name → MoveLine → NamedMove
move_of e x = record { event = e; pre = x.pre; post = x.post }

pub record AddsMove (m n count : ℕ) (t : Lent) (x : MoveLine) (r : Bool) (c : ℕ) (u : Lent) : Type 0 where
  pub leaves : (ns : List Name) (e : Name) → Held ns count t → IsWord x e → Leaves (store_move m n (rows_of ns t) (move_of e x)) r c u

-- what stands at a position, and what became of it; v are names and moves that the rows held before, and c entries of them hold names then
unfoldable pub MoveLeft : Parsed NamedMove → ℕ → ℕ → Rows → Result (Std.Option ℕ) BadLine → ℕ → Lent → Type 0
MoveLeft o m n v (Ok None) c u = (o ≡ fail) × HoldsRows v c u
MoveLeft o m n v (Err _) c u = (x : NamedMove) × (next : ℕ) × (o ≡ got x next) × (store_move m n v x ≡ none)
MoveLeft o m n v (Ok (Some next)) c u = (x : NamedMove) × (w : Rows) × (o ≡ got x next) × (store_move m n v x ≡ some w) × HoldsRows w c u

pub record ReadsMove (s : List ℕ) (at m n count : ℕ) (t : Lent) (r : Result (Std.Option ℕ) BadLine) (c : ℕ) (u : Lent) : Type 0 where
  pub most : c ≤ 64
  pub left : (ns : List Name) → Held ns count t → MoveLeft (move_form s at) m n (rows_of ns t) r c u

-- all moves from a position on
unfoldable pub LeavesMoves : Option Rows → ℕ → Result ℕ BadLine → ℕ → Lent → Type 0
LeavesMoves none end r c u = IsErr r
LeavesMoves (some v) end r c u = (r ≡ Ok end) × HoldsRows v c u

pub record ReadsMoves (s : List ℕ) (at m n count : ℕ) (t : Lent) (r : Result ℕ BadLine) (c : ℕ) (u : Lent) : Type 0 where
  pub most : c ≤ 64
  pub leaves : (ns : List Name) → Held ns count t → LeavesMoves (store_moves m n (rows_of ns t) (many move_form s at).0) (many move_form s at).1 r c u
