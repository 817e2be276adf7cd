-- A list of names on the machines of a sheet.
use Rattle.std.specs.Prelude as Std
use Rattle.std.specs.Prelude.{ℕ, ◌+◌, ◌≡◌, not, cond, ◌&&◌, List, [], length, drop}
use Rattle.std.proofs.Math.Option.{Option, none, some}
use Rattle.model.specs.Lists.{every, index, is_empty}
use Rattle.model.specs.Refusal.{Refusal, refuse, refused, passed}
use Rattle.model.specs.Product.{Ran, effective}
use Rattle.model.specs.Bytes.{Name}
use Rattle.model.specs.Sheet.{Board}
use Rattle.model.specs.Services.{RunAnswer, ran_answer, padded}
use Rattle.model.specs.Board.{read_sheet, move_on, start_places, split_names, run_board, board_run}
use Rattle.model.specs.BoardTable.{SaysSheet}
use Rattle.rows.specs.Rows.{row}
use Rattle.sheet_reader.specs.Lent.{Lent, lent_rows}
use Rattle.sheet_reader.specs.Lines.{Told}
use Rattle.product.specs.declared.RunAnswer as D
use Rattle.product.specs.Answers.{run_answer}

-- the names from a position on, and what stands after the last byte 10
abbrev pub names_from : List ℕ → ℕ → List Name × List ℕ
names_from t at = split_names [] (drop at t)

-- 14's position, if k names stand before these
unfoldable pub odd_from : Board → ℕ → List Name × List ℕ → Option ℕ
odd_from b k p = cond (every (effective move_on b) p.0 && is_empty p.1) none (some (k + index (λ e. not (effective move_on b e)) p.0))

-- 14, or what ran
unfoldable pub answer_of : Option ℕ → Ran → RunAnswer
answer_of none r = ran_answer (passed r)
answer_of (some k) r = ran_answer (refused (refuse 14 k 0))

-- the rows have the machines of a good sheet
pub record Loaded (b : Board) (count : ℕ) (u : Lent) : Type 0 where
  pub sheet : List ℕ
  pub says : SaysSheet sheet b
  pub told : Told b count u

unfoldable pub odd_is : Std.Option ℕ → Option ℕ
odd_is Std.None = none
odd_is (Std.Some k) = some k

-- for any rows of moves beside those of the names
pub record FindsOdd (t : List ℕ) (at before count : ℕ) (lens highs lows : List ℕ) (r : Std.Option ℕ) : Type 0 where
  pub odd : (b : Board) (pre post : List ℕ) → Loaded b count (lent_rows lens highs lows pre post) → odd_is r ≡ odd_from b before (names_from t at)

-- so many names ran, this machine blocked the next, and the others begin at a position
pub record EndsBlocked (t : List ℕ) (at count : ℕ) (lens highs lows : List ℕ) (ran machine : ℕ) (places : List ℕ) (a : RunAnswer) : Type 0 where
  pub ends : (b : Board) (pre post qs : List ℕ) → Loaded b count (lent_rows lens highs lows pre post) → places ≡ padded qs
      → a ≡ answer_of (odd_from b (ran + 1) (names_from t at)) (record { ran = ran; blocked = some machine; places = qs })

-- the list from the start places of a sheet's machines
pub record RunsNames (t : List ℕ) (machines count : ℕ) (u : Lent) (start : List ℕ) (a : RunAnswer) : Type 0 where
  pub runs : (b : Board) → Loaded b count u → machines ≡ length b → start ≡ row 16 0 (start_places b) → a ≡ ran_answer (run_board b t)

-- the run from the sheet alone, and how many machines it has
pub record RunsBoard (s t : List ℕ) (machines : ℕ) (answer : D.RunAnswer) : Type 0 where
  pub runs : run_answer answer ≡ board_run s t
  pub counted : (b : Board) → read_sheet s ≡ passed b → machines ≡ length b
  pub no_machines_lem : (q : Refusal) → read_sheet s ≡ refused q → machines ≡ 0
