-- Boards load their own sheet: what is read, refusal 15, the machines read and written again, and the run from the sheet alone. Document 02, slip 1.
-- Believed: nothing. Held by demand1: the reader and 15 (`loading`), writing again (`rewriting`), 14 (`board_running`); by demand2 what the run answers (`board_telling`); for
-- the sheet of a text by demand3 (`boards`).
use Rattle.std.specs.Prelude.{ℕ, zero, suc, ◌+◌, Bool, not, cond, ◌&&◌, leb, ltb, eqb, length}
use mathlib.Core.List.{List, [], ◌∷◌, ◌++◌, map, flat_map}
use Rattle.std.proofs.Math.Option
use Rattle.std.proofs.Math.Option.{Option}
use Rattle.model.specs.Lists.{exists, every, first, index, is_empty}
use Rattle.model.specs.Refusal.{refuse, Checked, refused, passed, need, ◌>>=◌, ◌>>◌}
use Rattle.model.specs.Product.{Move, Ran, effective, run_from}
use Rattle.model.specs.Bytes.{Name, same_name}
use Rattle.model.specs.Reading.{Parsed, fail, got}
use Rattle.model.specs.Text.{distinct}
use Rattle.model.specs.Sheet.{NamedMove, NamedLine, Board, written_sheet, count_form, line_form}
use Rattle.model.specs.Services.{Lent, lend, RunAnswer, ran_answer}

-- ---- a machine's line after those of the machines before it

-- of a machine with n places: "move ends are below the count of places, the ends of a move differ"
abbrev pub good_ends : ℕ → ℕ → ℕ → Bool
good_ends n q r = ltb q n && (ltb r n && not (eqb q r))

unfoldable pub is_good_move : ℕ → NamedMove → Bool
is_good_move n x = good_ends n x.pre x.post

-- these names, and another if it is not among them
unfoldable pub add_name : List Name → Name → List Name
add_name ns e = cond (exists (same_name e) ns) ns (ns ++ (e ∷ []))

unfoldable pub add_names : List Name → List NamedMove → List Name
add_names ns [] = ns
add_names ns (x ∷ xs) = add_names (add_name ns x.event) xs

-- the names on the sheet, each once, in the order in which they first occur
unfoldable pub names_on : Board → List Name
names_on b = add_names [] (flat_map (λ (l : NamedLine). l.moves) b)

-- "machine numbers rise by one from 0", 1 to 64 places, "starts … are below the count of places", its moves, "a machine names an event once", "At most 64 names occur"
unfoldable pub is_good_line : Board → NamedLine → Bool
is_good_line before l =
    eqb l.number (length before)
    && (leb 1 l.place_count
    && (leb l.place_count 64
    && (ltb l.start l.place_count
    && (every (is_good_move l.place_count) l.moves
    && (distinct (map (λ (x : NamedMove). x.event) l.moves) && leb (length (names_on (before ++ (l ∷ [])))) 64)))))

-- ---- the sheet. 15: "first faulty line (the line after the last if one is missing)"; machine k stands on line k + 2

unfoldable pub machine_then : Board → Parsed NamedLine → (Board → ℕ → Checked Board) → Checked Board
machine_then before fail rest = refused (refuse 15 (length before + 2) 0)
machine_then before (got l next) rest = do
  need (refuse 15 (length before + 2) 0) (is_good_line before l)
  rest (before ++ (l ∷ [])) next

-- the lines of n machines from a position on, after those of these machines, and nothing more
unfoldable pub machines_from : ℕ → List ℕ → Board → ℕ → Checked Board
machines_from zero s before at = do
  need (refuse 15 (length before + 2) 0) (leb (length s) at)
  passed before
machines_from (suc n) s before at = machine_then before (line_form s at) (machines_from n s)

-- line 1 "counts machines", 1 to 16
unfoldable pub count_then : Parsed ℕ → (ℕ → ℕ → Checked Board) → Checked Board
count_then fail rest = refused (refuse 15 1 0)
count_then (got n next) rest = do
  need (refuse 15 1 0) (leb 1 n && leb n 16)
  rest n next

-- "over 32,768 bytes, line 0"
unfoldable pub read_sheet : List ℕ → Checked Board
read_sheet s = do
  need (refuse 15 0 0) (leb (length s) 32768)
  count_then (count_form s 0) (λ n next. machines_from n s [] next)

-- ---- the machines read, written into a lent buffer

unfoldable pub rewrite : List ℕ → List ℕ → Lent ℕ
rewrite s out =
    lend
    (do
      b ← read_sheet s
      passed (written_sheet b))
    out

-- ---- the run from the sheet alone, the machines together (Product)

-- the move of an event on a machine; none: it is not on the machine
unfoldable pub move_on : NamedLine → Name → Option Move
move_on l e = Option.map (λ (x : NamedMove). record { pre = x.pre; post = x.post }) (first (λ (x : NamedMove). same_name e x.event) l.moves)

-- each machine begins in the start place of its line
unfoldable pub start_places : Board → List ℕ
start_places = map (λ (l : NamedLine). l.start)

-- "events given by name, each ended by byte 10": the names, and what stands after the last byte 10. w: the bytes of a name so far
unfoldable pub split_names : List ℕ → List ℕ → List Name × List ℕ
split_names w [] = ([], w)
split_names w (b ∷ t) = cond (eqb b 10) (w ∷ (split_names [] t).0, (split_names [] t).1) (split_names (w ++ (b ∷ [])) t)

-- 14: "A name on no move, or a last one not ended, gets 14 with its position, before any move."
unfoldable pub run_names : Board → List Name → List ℕ → Checked Ran
run_names b es rest = do
  need (refuse 14 (index (λ e. not (effective move_on b e)) es) 0) (every (effective move_on b) es && is_empty rest)
  passed (run_from move_on b (start_places b) es)

-- the list of names on the machines of a sheet
abbrev pub run_board : Board → List ℕ → Checked Ran
run_board b t = run_names b (split_names [] t).0 (split_names [] t).1

unfoldable pub board_run : List ℕ → List ℕ → RunAnswer
board_run s t =
    ran_answer
    (do
      b ← read_sheet s
      run_board b t)
