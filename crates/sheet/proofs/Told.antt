-- The sheet that the rows give is the model's, if the rows tell a value that passes 8 to 10 and its moves.
use Prim.Native.Nat.{ℕ, zero, suc, ◌+◌, ◌*◌, ◌<◌, ◌≤◌}
use native.Mathlib.Omega.{arith}
use mathlib.Core.Path.{◌≡◌, refl, ap, ◌∙◌}
use mathlib.Core.List.{List}
use mathlib.Core.Option.{none}
use lib.ListN.{length, take}
use lib.Seq.{take-suc, take-length}
use Rattle.model.specs.Lists.{At}
use Rattle.model.specs.TransitionSystem.{TransitionSystem}
use Rattle.model.specs.Machine.{Machine, place_of, move, machines_refusal}
use Rattle.model.specs.Text.{Input, system, Limits}
use Rattle.model.specs.Sheet.{moves_below, sheet_line, sheet_lines, board_of, sheet}
use Rattle.model.proofs.Positions.{below_at, at_value}
use Rattle.model.proofs.Sheets.{at_lines, lines_length}
use Rattle.rows.specs.declared.Counts.{Counts}
use Rattle.rows.specs.declared.Tables.{Tables}
use Rattle.rows.specs.Tables.{tables_in}
use Rattle.rows.specs.Bounded.{Bounded}
use Rattle.rows.specs.Told.{entry, Told}
use Rattle.rows.specs.Names.{row_names}
use Rattle.rows.proofs.Telling.{told_place, told_events, told_initial}
use Rattle.regions.specs.Moves.{move_at, MovesTold}
use Rattle.sheet.specs.Rows.{SheetBounds}
use Rattle.rows.proofs.Names.{told_names}
use Rattle.sheet.specs.Written.{row_moves, row_line, row_lines, row_sheet}

-- the moves of one machine
moves_told : (ts : TransitionSystem) (m : Machine) (pre post : List ℕ) (k n : ℕ) → ((e : ℕ) → e < n → move_at pre post k e ≡ move ts m e)
    → row_moves pre post k n ≡ moves_below ts m n
unfolding row_moves moves_below
moves_told ts m pre post k zero h = refl
moves_told ts m pre post k (suc n) h = rw (h n (omega arith), moves_told ts m pre post k n (λ e l. h e (omega arith)))

-- the rows tell the lines of a sheet: how many machines and events there are, and of each machine its places, its start and its moves
pub record LinesTold (v : Input) (p : Tables) (pre post : List ℕ) : Type 0 where
  pub counted : p.counts.machines ≡ length v.machines
  pub events : p.counts.events ≡ length v.names
  pub places : (k : ℕ) (m : Machine) → At v.machines k m → entry p.sizes k ≡ length m.places
  pub start : (k : ℕ) (m : Machine) → At v.machines k m → entry p.place (k * 256 + p.counts.initial) ≡ place_of m v.initial
  pub moves : MovesTold (system v) v.machines pre post

module _ (s : List ℕ) (v : Input) (p : Tables) (pre post : List ℕ) (told : LinesTold v p pre post) where
  line_told : (k : ℕ) (m : Machine) → At v.machines k m → row_line p pre post k ≡ sheet_line (system v) k m
  unfolding row_line sheet_line
  line_told k m a = rw (told.places k m a, told.start k m a, told.events, moves_told (system v) m pre post k (length v.names) (λ e h. told.moves.move k e m a h))

  -- the rows count their lines from the front, as `take` does; the model numbers them on the way down
  lines_told : (n : ℕ) → n ≤ length v.machines → row_lines p pre post n ≡ take n (sheet_lines (system v) 0 v.machines)
  unfolding row_lines
  lines_told zero h = refl
  lines_told (suc n) h =
      let ms = v.machines in
      let ls = sheet_lines (system v) 0 ms in
      let low : n < length ls = omega (arith, lines_length (system v) ms 0) in
      let (m, a) = below_at ms n h in
      let (x, b) = below_at ls n low in
      let z : 0 + n ≡ n = omega arith in
      rw (take-suc ls n x low, at_value ls n x x b, lines_told n (omega arith), line_told n m a, ← at_lines (system v) ms 0 n m x a b, z)

  all_lines : row_lines p pre post p.counts.machines ≡ sheet_lines (system v) 0 v.machines
  all_lines =
      let ls = sheet_lines (system v) 0 v.machines in
      ap (row_lines p pre post) told.counted
      ∙ lines_told (length v.machines) (omega arith)
      ∙ rw (← lines_length (system v) v.machines 0) (take-length ls)

  pub lines_sheet : row_names s p ≡ v.names → row_sheet s p pre post ≡ sheet v
  unfolding row_sheet sheet board_of
  lines_sheet names = rw (all_lines, names)

-- so do the rows of a text that passes 8 to 10
pub told_sheet : (s : List ℕ) (v : Input) (p : Tables) (pre post : List ℕ) → Told s v p → MovesTold (system v) v.machines pre post
    → machines_refusal (system v) 0 v.machines ≡ none → Limits v → row_sheet s p pre post ≡ sheet v
told_sheet s v p pre post told moves passes l =
    lines_sheet s v p pre post
    (record {
      counted = told.tells_machines.counted;
      events = told_events told;
      places = λ k m a. (told.tells_machines.machine k m a).places;
      start = λ k m a.
          rw (told_initial told)
          (told_place told.tells_machines passes l.states_most k v.initial m a (omega (arith, l.initial, l.states_least)));
      moves = moves;
    })
    (told_names s v p told)

-- of bounds on all rows those that a sheet needs
pub sheet_bounds : (c : Counts) (ats lens sources events targets sizes duplicates places : List ℕ)
    → Bounded (tables_in c ats lens sources events targets sizes duplicates places) → length lens ≡ 64 → length sizes ≡ 16 → length places ≡ 4096
    → SheetBounds c lens sizes places
sheet_bounds c ats lens sources events targets sizes duplicates places b l z p =
    record {
      states = b.states;
      initial = b.initial;
      events = b.events;
      names = b.names;
      machines = b.machines;
      place_counts = b.sizes;
      lens_size = l;
      sizes_size = z;
      places_size_lem = p;
    }
