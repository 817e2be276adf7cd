-- The sheet that the rows give: the model's bytes of the model's lines, with each number and name taken from the rows.
use Rattle.std.specs.Prelude.{ℕ, zero, suc, ◌+◌, ◌*◌}
use mathlib.Core.List.{List, [], ◌∷◌, ◌++◌, map, flat_map}
use Rattle.model.specs.Bytes.{bytes, digits, Name}
use Rattle.model.specs.Sheet.{EventMove, SheetLine, add_move, written_move, written_sheet, named, named_line}
use Rattle.rows.specs.declared.Tables.{Tables}
use Rattle.rows.specs.Told.{entry}
use Rattle.rows.specs.Names.{names_in, row_names}
use Rattle.regions.specs.Moves.{move_at}

-- what stands before the moves of a machine
unfoldable pub head_bytes : ℕ → ℕ → ℕ → List ℕ
head_bytes k size start =
    bytes "(machine " ++ (digits k ++ (bytes " (places " ++ (digits size ++ (bytes ") (start " ++ (digits start ++ bytes ")")))))

-- what stands behind the name of a move
unfoldable pub places_bytes : ℕ → ℕ → List ℕ
places_bytes pre post = bytes " " ++ (digits pre ++ (bytes " " ++ (digits post ++ bytes ")")))

-- the moves of the events below n on machine k
unfoldable pub row_moves : List ℕ → List ℕ → ℕ → ℕ → List EventMove
row_moves pre post k zero = []
row_moves pre post k (suc n) = add_move n (move_at pre post k n) (row_moves pre post k n)

unfoldable pub row_line : Tables → List ℕ → List ℕ → ℕ → SheetLine
row_line p pre post k =
    record {
      number = k;
      place_count = entry p.sizes k;
      start = entry p.place (k * 256 + p.counts.initial);
      moves = row_moves pre post k p.counts.events;
    }

-- the lines of the first n machines
unfoldable pub row_lines : Tables → List ℕ → List ℕ → ℕ → List SheetLine
row_lines p pre post zero = []
row_lines p pre post (suc n) = row_lines p pre post n ++ (row_line p pre post n ∷ [])

-- the moves of the events on machine k, as bytes
unfoldable pub moves_bytes : List Name → List ℕ → List ℕ → ℕ → ℕ → List ℕ
moves_bytes names pre post k n = flat_map written_move (map (named names) (row_moves pre post k n))

-- the same with the names that the text has
abbrev pub named_moves : List ℕ → List ℕ → List ℕ → List ℕ → List ℕ → ℕ → ℕ → List ℕ
named_moves s ats lens pre post k events = moves_bytes (names_in s ats lens events) pre post k events

unfoldable pub row_sheet : List ℕ → Tables → List ℕ → List ℕ → List ℕ
row_sheet s p pre post = written_sheet (map (named_line (row_names s p)) (row_lines p pre post p.counts.machines))
