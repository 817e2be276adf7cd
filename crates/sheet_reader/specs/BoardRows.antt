-- What a board keeps: the names so far, and the rows of moves that regions/specs/Moves has.
use Rattle.std.specs.Prelude.{ℕ, ◌+◌, ◌*◌, ◌≤◌, ◌<◌, ◌≡◌, not, cond, ◌&&◌, List, [], ◌∷◌, ltb, length, set}
use Rattle.std.proofs.Math.Option.{Option, none, some}
use Rattle.model.specs.Lists.{At, is_some}
use Rattle.model.specs.TransitionSystem.{and_then}
use Rattle.model.specs.Product.{Move}
use Rattle.model.specs.Bytes.{Name}
use Rattle.model.specs.Text.{event_number}
use Rattle.model.specs.Sheet.{NamedMove, NamedLine, Board}
use Rattle.model.specs.Board.{is_good_move, add_name, names_on, move_on}
use Rattle.regions.specs.Moves.{move_at, MoveRows}

pub record Rows : Type 0 where
  pub names : List Name
  pub pre : List ℕ
  pub post : List ℕ

-- where the rows have the move of event e on machine m
abbrev pub cell : ℕ → ℕ → ℕ
cell e m = e * 16 + m

abbrev pub move_in : Rows → ℕ → ℕ → Option Move
move_in t e m = move_at t.pre t.post m e

-- one move of machine m, which has n places; none: its line is bad
unfoldable pub store_move : ℕ → ℕ → Rows → NamedMove → Option Rows
store_move m n t x =
    cond
    (is_good_move n x && (ltb (event_number t.names x.event) 64 && not (is_some (move_in t (event_number t.names x.event) m))))
    (some (record {
      names = add_name t.names x.event;
      pre = set t.pre (cell (event_number t.names x.event) m) x.pre;
      post = set t.post (cell (event_number t.names x.event) m) x.post;
    }))
    none

unfoldable pub store_moves : ℕ → ℕ → Rows → List NamedMove → Option Rows
store_moves m n t [] = some t
store_moves m n t (x ∷ xs) = and_then (store_move m n t x) (λ u. store_moves m n u xs)

-- the rows tell the machines of these lines
pub record TellsBoard (b : Board) (t : Rows) : Type 0 where
  pub names : t.names ≡ names_on b
  pub few : length t.names ≤ 64
  pub rows : MoveRows t.pre t.post
  pub on : (k : ℕ) (l : NamedLine) (e : ℕ) (w : Name) → k < 16 → At b k l → At t.names e w → move_in t e k ≡ move_on l w
  pub no_event : (e k : ℕ) → e < 64 → k < 16 → length t.names ≤ e → move_in t e k ≡ none
  pub no_machine_lem : (e k : ℕ) → e < 64 → k < 16 → length b ≤ k → move_in t e k ≡ none
