-- Document 02, slip 2, "Start away from the park position": its examples, from the bytes of each text to the answers, in one table, by computation.
-- Held by computing: to be compared with the papers; `StartsAway` and `RefusedAway` by demand2 and demand3 (proofs/Starts: starts_away, refused_away).
use Rattle.std.specs.Prelude.{ℕ, ◌<◌, ◌≡◌, refl, ◌↔◌, true, ltb, replicate}
use Prim.Native.String.{String, ◌++◌}
use mathlib.Core.List.{List, [], ◌∷◌, flat_map, flatten, Memᴰ}
use Rattle.std.proofs.Math.Option.{Option, some, or_else}
use Rattle.model.specs.Lists.{Pairwise, exists, every, first, index, count, satisfying, is_some, is_empty, elem, lowest}
use Rattle.model.specs.Refusal.{Refusal, refuse, refused, passed}
use Rattle.model.specs.TransitionSystem.{leads, system_step, and_then, runs, system_runs, declared, transition_refusal, transitions_refusal, unused_event, exits, with_target, grown, reached, unreachable_state, system_refusal}
use Rattle.model.specs.Product.{move_from, both, one_more, in_alphabet, effective, fire, fire_all, product_step, blocker, run_from}
use Rattle.model.specs.Machine.{Machine, Decomposition, place_in, places, crosses, move, product_runs, duplicate_state, unplaced_state, transitions_of, enters, all_or_none, uniform, nonuniform_event, ineffective_event, in_pre, ready, common, excited, open_state, open_event, closure_refusal, machine_refusal, machines_refusal, cover_refusal, select, suffices, try_drop, thin_below, kept_marks}
use Rattle.model.specs.Bytes.{bytes, is_digit, is_letter, is_capital, lower, is_name_byte, is_figure, is_name, digits}
use Rattle.model.specs.Form.{start_of, Respelt, is_machine_line, is_step_line, start_given, states_line, spaced_name, events_line, step_line, spaced_figure, place, machine_line, line_after}
use Rattle.model.specs.Text.{Input, system, event_number, value_of, distinct, in_limit, is_declared, ended, line_then, lines_from, read, lines_with, write, Limits, line_two, name_at}
use Rattle.model.specs.Sheet.{add_move, moves_below, sheet_line, sheet_lines, move_bytes, written_move, written_line, written_count, written_sheet, board_of, sheet}
use Rattle.model.specs.Services.{as_far_as7, as_far_as10, as_far_as12, lend, check, name, blocked, outcome_of, padded, ran_answer, run_events, run, Kept, kept_of, thin}
use Rattle.model.specs.Region.{Walk, IsTransitionSystem, IsRegion, IsMachine, Effective, ExcitationClosed}
use Rattle.model.specs.Table.{Reads, Refused, Passes}
use Rattle.model.specs.Demands.{Derived, Sheet, OfSystem, SystemRuns, ProductRuns, Answers, Thinned, Faithful, Differ, OwnSheet}
use Rattle.model.specs.Examples.{Y0, Y1, Writes, Refuses, Runs, Keeps}

-- the plan Y from line 2 on, then with its machines; started in state 3; and that without its second machine
abbrev pub y_plan : String
y_plan = "(events ready brake home)\n(step 0 ready 1)\n(step 0 brake 2)\n(step 1 brake 3)\n(step 2 ready 3)\n(step 3 home 0)\n"

abbrev pub y_rest : String
y_rest = y_plan ++ Y0 ++ Y1

abbrev pub y_away : String
y_away = "(states 4 start 3)\n" ++ y_rest

abbrev pub y_alone : String
y_alone = "(states 4 start 3)\n" ++ y_plan ++ Y0

-- Y as a value, with this start and these machines
abbrev pub y_input : ℕ → Decomposition → Input
y_input k ms =
    record {
      states = 4;
      initial = k;
      names = bytes "ready" ∷ bytes "brake" ∷ bytes "home" ∷ [];
      transitions =
          record { source = 0; event = 0; target = 1 }
          ∷ record { source = 0; event = 1; target = 2 }
          ∷ record { source = 1; event = 1; target = 3 }
          ∷ record { source = 2; event = 0; target = 3 }
          ∷ record { source = 3; event = 2; target = 0 }
          ∷ [];
      machines = ms;
    }

abbrev pub y0 : Machine
y0 = record { places = (0 ∷ 2 ∷ []) ∷ (1 ∷ 3 ∷ []) ∷ [] }

abbrev pub y1 : Machine
y1 = record { places = (0 ∷ 1 ∷ []) ∷ (2 ∷ 3 ∷ []) ∷ [] }

-- its sheet, with machines that start in this place
abbrev pub y_sheet : String → String
y_sheet p =
    "(accepted 2)\n(machine 0 (places 2) (start "
    ++ p
    ++ ") (move ready 0 1) (move home 1 0))\n(machine 1 (places 2) (start "
    ++ p
    ++ ") (move brake 0 1) (move home 1 0))\n"

pub record Starts : Type 0 where
  -- three texts, two values
  pub short : as_far_as12 (bytes ("(states 4)\n" ++ y_rest)) ≡ passed (y_input 0 (y0 ∷ y1 ∷ []))
  pub long : as_far_as12 (bytes ("(states 4 start 0)\n" ++ y_rest)) ≡ passed (y_input 0 (y0 ∷ y1 ∷ []))
  pub away : as_far_as12 (bytes y_away) ≡ passed (y_input 3 (y0 ∷ y1 ∷ []))
  pub alone : as_far_as10 (bytes y_alone) ≡ passed (y_input 3 (y0 ∷ []))
  pub alone_refused : as_far_as12 (bytes y_alone) ≡ refused (refuse 11 1 0)
  -- "Y with start 3 prints `(start 1)` on both lines."
  pub y_start_3 : Writes y_away (y_sheet "1")
  pub y_run : Runs y_away (2 ∷ 0 ∷ 2 ∷ []) (blocked 2 1) (1 ∷ replicate 15 0)
  pub y_name : name (bytes y_away) 1 ≡ passed (record { from = 33; size = 5 })
  pub y_kept : Keeps y_away (true ∷ true ∷ []) 2
  pub park_unreached : Refuses "(states 3 start 1)\n(events up down)\n(step 1 up 2)\n(step 2 down 1)\n(machine (0 1 2))\n" (record { number = 7; detail = 0; second = 0 })
  -- "A start not below the count is 3", after 1 and 2
  pub not_below : Refuses ("(states 4 start 4)\n" ++ y_rest) (record { number = 3; detail = 1; second = 0 })
  pub no_states : Refuses ("(states 0 start 0)\n" ++ y_rest) (record { number = 2; detail = 1; second = 0 })
  pub bound_first : Refuses ("(states 257 start 300)\n" ++ y_rest) (record { number = 2; detail = 1; second = 0 })
  pub leading_zero : Refuses ("(states 4 start 03)\n" ++ y_rest) (record { number = 1; detail = 1; second = 0 })
  pub four_digits : Refuses ("(states 4 start 1000)\n" ++ y_rest) (record { number = 1; detail = 1; second = 0 })
  pub no_figure : Refuses ("(states 4 start )\n" ++ y_rest) (record { number = 1; detail = 1; second = 0 })

-- The demands speak of plans that start elsewhere than in state 0. What they say of Y with start 3, whole:
pub record StartsAway (s : List ℕ) (v : Input) : Type 0 where
  pub initial : v.initial ≡ 3
  pub passes : Passes 12 s v
  pub own_lines : (r : Reads s v) → (o : Option ℕ) × (start_of o ≡ 3) × Pairwise Respelt (lines_with o v) r.lines
  pub limits : Limits v
  pub writes : Reads (write v) v
  pub all_states : IsRegion (system v) (λ u. ltb u 4)
  pub transition_system : IsTransitionSystem (system v)
  pub runs : (es : List ℕ) (u : ℕ) → (system_runs (system v) es ≡ some u) ↔ Walk (system v) 3 es u
  pub machines : Derived (system v) v.machines
  pub closure : (e : ℕ) → e < 3 → Effective (system v) v.machines e × ExcitationClosed (system v) v.machines e
  pub shown : Sheet v
  pub lists : (k : Kept) × (thin s ≡ passed k) × Thinned (system v) v.machines k
      × ((es : List ℕ) → OfSystem (system v) es
      → Faithful (system v) v.machines es × Faithful (system v) (select k.marks v.machines) es × Answers (system v) v.machines es (run s es))
  pub boards : OwnSheet s v

-- and of the same without its second machine, which 11 refuses
pub record RefusedAway (s : List ℕ) (v : Input) : Type 0 where
  pub initial : v.initial ≡ 3
  pub passes : Passes 10 s v
  pub refused_open : Refused 12 s (refuse 11 1 0)
  pub differ : Differ (system v) v.machines
  pub converse : ((m : Machine) → Memᴰ m v.machines → IsMachine (system v) m)
      → ((es : List ℕ) → OfSystem (system v) es → SystemRuns (system v) es ↔ ProductRuns (system v) v.machines es)
      → (r : Refusal) → Refused 12 s r → r.number ≡ 8

pub starts : Starts
unfolding Writes Refuses Runs Keeps exists every first index count satisfying is_some is_empty elem lowest or_else flatten flat_map leads system_step
    and_then runs system_runs declared transition_refusal transitions_refusal unused_event exits with_target grown reached unreachable_state
    system_refusal place_in places crosses move in_alphabet effective move_from fire both fire_all product_step product_runs duplicate_state unplaced_state
    transitions_of enters all_or_none uniform nonuniform_event ineffective_event in_pre ready common excited open_state open_event closure_refusal
    machine_refusal machines_refusal cover_refusal select suffices try_drop thin_below kept_marks is_digit is_letter is_capital lower is_name_byte is_figure is_name digits
    is_machine_line is_step_line start_given states_line spaced_name events_line step_line spaced_figure place machine_line line_after event_number value_of distinct in_limit
    is_declared ended line_then lines_from read as_far_as7 as_far_as10 as_far_as12 lend add_move moves_below sheet_line sheet_lines move_bytes written_move written_line written_count written_sheet board_of sheet
    check blocker one_more run_from outcome_of padded ran_answer run_events run kept_of thin name line_two name_at
starts =
    record {
      short = refl;
      long = refl;
      away = refl;
      alone = refl;
      alone_refused = refl;
      y_start_3 = refl;
      y_run = refl;
      y_name = refl;
      y_kept = refl;
      park_unreached = refl;
      not_below = refl;
      no_states = refl;
      bound_first = refl;
      leading_zero = refl;
      four_digits = refl;
      no_figure = refl;
    }
