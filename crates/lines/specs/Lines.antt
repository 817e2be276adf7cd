-- What the code answers to what a line's reader finds.
use Rattle.std.specs.Prelude.{ℕ, ◌+◌, ◌≡◌, Bool, true, cond, ◌&&◌, leb, ltb, eqb, length, replicate, Option, Some, None}
use mathlib.Core.List.{List, [], ◌∷◌, map, flatten}
use Rattle.std.proofs.Math.Option as Math
use Rattle.std.proofs.lemmas.List.Edits.{sets}
use Rattle.model.specs.Lists.{every, count, lowest}
use Rattle.model.specs.Machine.{Place}
use Rattle.model.specs.Bytes.{Name}
use Rattle.model.specs.Reading.{Parsed, fail, got}
use Rattle.model.specs.Form.{Line, states, events, step, machine, start_of}
use Rattle.lexer.specs.Words.{high, low, packed_name}
use Rattle.lexer.specs.declared.FigureAt.{FigureAt}
use Rattle.names.specs.declared.Names.{Names}
use Rattle.lines.specs.declared.StatesLine.{StatesLine}
use Rattle.lines.specs.declared.EventsLine.{EventsLine}
use Rattle.lines.specs.declared.StepLine.{StepLine}
use Rattle.lines.specs.declared.MachineLine.{MachineLine}
use Rattle.rows.specs.Rows.{place_row, or_no_state}

-- what a states line answers at a position after its count: the start, 0 and the same position where none is given
unfoldable pub as_given : ℕ → Parsed (Math.Option ℕ) → FigureAt
as_given at fail = record { value = 0; next = at }
as_given at (got o next) = record { value = start_of o; next = next }

unfoldable pub as_states : Parsed Line → Option StatesLine
as_states fail = None
as_states (got (states n o) next) = Some (record { count = n; start = start_of o; next = next })
as_states (got (events es) next) = None
as_states (got (step a e b) next) = None
as_states (got (machine ps) next) = None

-- the position of each name of a list that begins at a position: each stands after a space
unfoldable pub spots : ℕ → List Name → List ℕ
spots at [] = []
spots at (e ∷ es) = (at + 1) ∷ spots (at + 1 + length e) es

-- the position after "(events" at a position: the names begin there
unfoldable pub names_from : ℕ → ℕ
names_from at = at + 7

-- the rows of names: of each its position in the text, its length, and its bytes as two numbers
pub record EventRows : Type 0 where
  pub placed : List ℕ
  pub lengths : List ℕ
  pub highs : List ℕ
  pub lows : List ℕ

abbrev pub event_rows : List ℕ → List ℕ → List ℕ → List ℕ → EventRows
event_rows a b c d = record { placed = a; lengths = b; highs = c; lows = d }

-- the positions of names, and the names
abbrev pub rows_of_events : List ℕ → Names → EventRows
rows_of_events ats names = event_rows ats names.«len» names.high names.low

-- they have all their entries
pub record FullRows (r : EventRows) : Type 0 where
  pub placed_full : length r.placed ≡ 64
  pub lengths_full : length r.lengths ≡ 64
  pub highs_full : length r.highs ≡ 64
  pub lows_full : length r.lows ≡ 64

-- names that begin at a position are stored from the front; those past the rows' end fall away
unfoldable pub with_names : ℕ → EventRows → List Name → EventRows
with_names at r es =
    record {
      placed = sets r.placed 0 (spots at es);
      lengths = sets r.lengths 0 (map length es);
      highs = sets r.highs 0 (map high es);
      lows = sets r.lows 0 (map low es);
    }

unfoldable pub as_events : Parsed Line → Option EventsLine
as_events fail = None
as_events (got (states n o) next) = None
as_events (got (events es) next) = Some (record { count = length es; next = next })
as_events (got (step a e b) next) = None
as_events (got (machine ps) next) = None

-- what an events line at a position leaves in the rows: its names; without its form it is left open
pub record StoresNames (at : ℕ) (o : Parsed Line) (before after : EventRows) : Type 0 where
  pub stored : (es : List Name) (next : ℕ) → o ≡ got (events es) next → after ≡ with_names (names_from at) before es

unfoldable pub as_step : Parsed Line → Option StepLine
as_step fail = None
as_step (got (states n o) next) = None
as_step (got (events es) next) = None
as_step (got (step a e b) next) = Some (record { source = a; name = packed_name e; target = b; next = next })
as_step (got (machine ps) next) = None

-- the lowest state below n that is listed twice, or 256
unfoldable pub duplicate_mark : ℕ → List Place → ℕ
duplicate_mark n ps = or_no_state (lowest (λ x. ltb 1 (count (eqb x) (flatten ps))) n)

-- all states are below n
unfoldable pub all_below : ℕ → List Place → Bool
all_below n = every (every (λ x. ltb x n))

-- the row is told
unfoldable pub has_row : ℕ → List Place → Bool
has_row n ps = leb (length ps) 64 && all_below n ps

-- a line whose row is not told: one with too many places, or one with a state that is not declared
unfoldable pub without_row : ℕ → Bool → ℕ → MachineLine
without_row places declared next = record { places = places; declared = declared; duplicate = 256; row = replicate 256 255; next = next }

unfoldable pub machine_row : ℕ → List Place → ℕ → MachineLine
machine_row n ps next =
    record { places = length ps; declared = true; duplicate = duplicate_mark n ps; row = place_row ps; next = next }

unfoldable pub as_machine : ℕ → Parsed Line → Option MachineLine
as_machine n fail = None
as_machine n (got (states k o) next) = None
as_machine n (got (events es) next) = None
as_machine n (got (step a e b) next) = None
as_machine n (got (machine ps) next) =
    Some (cond (has_row n ps) (machine_row n ps next) (without_row (length ps) (all_below n ps) next))
