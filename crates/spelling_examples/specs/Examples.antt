-- Names as the drawings spell them, from the bytes of each text or sheet to the answer, computed (`spelt_texts`, `spelt_sheets`). Document 02, slip 5.
use Rattle.std.specs.Prelude.{◌≡◌, refl, true, false, replicate}
use Prim.Native.String.{String, ◌++◌}
use mathlib.Core.List.{[], ◌∷◌, flat_map, flatten}
use Rattle.std.proofs.Math.Option.{or_else}
use Rattle.model.specs.Lists.{numbers, exists, every, first, index, count, satisfying, is_some, is_empty, elem, lowest}
use Rattle.model.specs.Refusal.{refuse, refused, passed, refusal_of}
use Rattle.model.specs.TransitionSystem.{leads, declared, transition_refusal, transitions_refusal, unused_event, exits, with_target, grown, reached, unreachable_state, system_refusal}
use Rattle.model.specs.Product.{move_from, both, one_more, in_alphabet, effective, fire, fire_all, product_step, blocker, run_from}
use Rattle.model.specs.Machine.{place_in, places, crosses, move, duplicate_state, unplaced_state, transitions_of, enters, all_or_none, uniform, nonuniform_event, ineffective_event, in_pre, ready, common, excited, open_state, open_event, closure_refusal, machine_refusal, machines_refusal, cover_refusal, select, suffices, try_drop, thin_below, kept_marks}
use Rattle.model.specs.Bytes.{bytes, is_digit, is_letter, is_capital, lower, is_name_byte, is_figure, is_name, digits, numeral, numeral_up_to}
use Rattle.model.specs.Form.{is_machine_line, is_step_line, start_given, states_line, spaced_name, events_line, step_line, spaced_figure, place, machine_line, line_after}
use Rattle.model.specs.Text.{event_number, value_of, distinct, in_limit, is_declared, ended, line_then, lines_from, read, line_two, name_at}
use Rattle.model.specs.Sheet.{add_move, moves_below, sheet_line, sheet_lines, move_bytes, written_move, written_line, written_count, written_sheet, board_of, sheet, count_form, move_form, head_form, line_form}
use Rattle.model.specs.Merging.{removed, merge_places, merge_machine, merge_in, place_count, mergeable, partner, lower_place, merge_with, merge_lower, merge_first, merge_times, merged_below, merged, merged_input}
use Rattle.model.specs.Services.{as_far_as7, as_far_as10, as_far_as12, lend, check, steps, name, whole, blocked, refused_by, outcome_of, padded, ran_answer, run_events, run, kept_of, thin, merge, written_refusal}
use Rattle.model.specs.Board.{is_good_move, add_name, add_names, names_on, is_good_line, machine_then, machines_from, count_then, read_sheet, rewrite, move_on, start_places, split_names, run_names, board_run}
use Rattle.model.specs.Printed.{printed_by, fitting, printed_check, name_line, printed_name, printed_merge}
use Rattle.model.specs.Examples.{Y0, Y1, Writes, Refuses, Runs, Keeps}
use Rattle.sheet_examples.specs.Examples.{y_sheet, Refuses15, Rewrites, RunsNames, with_names}

-- the steps of the plan Y, each name in a case of its own, and the machines
abbrev pub steps_and_machines : String
steps_and_machines = "(step 0 ready 1)\n(step 0 Brake 2)\n(step 1 bRAKE 3)\n(step 2 READY 3)\n(step 3 hOmE 0)\n" ++ Y0 ++ Y1

-- Y with this events line
abbrev pub declaring : String → String
declaring es = "(states 4)\n(events " ++ es ++ ")\n" ++ steps_and_machines

-- its sheet, with the three events spelt in these ways
abbrev pub sheet_of : String → String → String → String
sheet_of ready brake home =
    "(accepted 2)\n(machine 0 (places 2) (start 0) (move "
    ++ ready
    ++ " 0 1) (move "
    ++ home
    ++ " 1 0))\n(machine 1 (places 2) (start 0) (move "
    ++ brake
    ++ " 0 1) (move "
    ++ home
    ++ " 1 0))\n"

-- a text of two steps with this events line, and its sheet
abbrev pub chain : String → String → String → String
chain es e f = "(states 3)\n(events " ++ es ++ ")\n(step 0 " ++ e ++ " 1)\n(step 1 " ++ f ++ " 2)\n(machine (0) (1) (2))\n"

abbrev pub chain_sheet : String → String → String
chain_sheet e f = "(accepted 1)\n(machine 0 (places 3) (start 0) (move " ++ e ++ " 0 1) (move " ++ f ++ " 1 2))\n"

-- two machines that name one event, each in its way
abbrev pub two_ways : String
two_ways = "(accepted 2)\n(machine 0 (places 2) (start 0) (move Ready 0 1))\n(machine 1 (places 2) (start 0) (move reAdy 0 1))\n"

pub record SpeltTexts : Type 0 where
  -- "A sheet prints the spelling of the events line"
  pub as_declared : Writes (declaring "Ready BRAKE home") (sheet_of "Ready" "BRAKE" "home")
  pub all_small : Writes (declaring "ready brake home") (sheet_of "ready" "brake" "home")
  pub all_capitals : Writes (declaring "READY BRAKE HOME") (sheet_of "READY" "BRAKE" "HOME")
  pub as_declared_13 : check (bytes (declaring "Ready BRAKE home")) (replicate 144 7) ≡ record { answer = refused (refuse 13 145 0); left = replicate 144 7 }
  pub merged_as_declared : merge (bytes (declaring "Ready BRAKE home")) (replicate 145 0) ≡ record { answer = passed 145; left = bytes (sheet_of "Ready" "BRAKE" "home") }
  -- "names that differ only in case are one event": the numbers are those of Y
  pub listed : steps (bytes (declaring "Ready BRAKE home")) (replicate 5 (record { source = 9; event = 9; target = 9 }))
      ≡ record {
        answer = passed 5;
        left =
            record { source = 0; event = 0; target = 1 }
            ∷ record { source = 0; event = 1; target = 2 }
            ∷ record { source = 1; event = 1; target = 3 }
            ∷ record { source = 2; event = 0; target = 3 }
            ∷ record { source = 3; event = 2; target = 0 }
            ∷ [];
      }
  pub run_by_number : Runs (declaring "Ready BRAKE home") (0 ∷ 1 ∷ 2 ∷ 2 ∷ []) (blocked 3 0) (replicate 16 0)
  pub thinned : Keeps (declaring "Ready BRAKE home" ++ Y0) (true ∷ true ∷ false ∷ []) 2
  -- a name is handed back where it is declared, as it is spelt there
  pub named : name (bytes (declaring "Ready BRAKE home")) 1 ≡ passed (record { from = 25; size = 5 })
  pub name_printed : printed_name (bytes (declaring "Ready BRAKE home")) 1 ≡ bytes "BRAKE\n"
  pub check_printed : printed_check (bytes (declaring "Ready BRAKE home")) 145 ≡ bytes (sheet_of "Ready" "BRAKE" "home")
  pub merge_printed : printed_merge (bytes (declaring "Ready BRAKE home")) 145 ≡ bytes (sheet_of "Ready" "BRAKE" "home")
  -- "Declaring both is 3."
  pub declared_twice : Refuses (declaring "READY Ready") (refuse 3 2 0)
  pub declared_twice_apart : Refuses (declaring "ready brake home readY") (refuse 3 2 0)
  pub undeclared : Refuses "(states 4)\n(events Ready home)\n(step 0 readY 1)\n(step 0 steady 1)\n(machine (0))\n" (refuse 3 4 0)
  pub begins_alike : Refuses (chain "Ready home" "Read" "home") (refuse 3 3 0)
  pub goes_on : Refuses (chain "Ready home" "ready" "HOMES") (refuse 3 4 0)
  -- one event, so two steps of it from a state are 5 and not two events
  pub same_event_from_0 : Refuses "(states 3)\n(events go)\n(step 0 Go 1)\n(step 0 gO 2)\n(machine (0) (1) (2))\n" (refuse 5 4 3)
  -- "Names may hold A-Z", from A to Z and nothing beside these letters
  pub first_and_last : Writes (chain "A z" "a" "Z") (chain_sheet "A" "z")
  pub sixteen : Writes (chain "ABCDEFGHIJKLMNOP QrStUvWxYz-0-9-a" "abcdefghijklmnop" "qRsTuVwXyZ-0-9-A") (chain_sheet "ABCDEFGHIJKLMNOP" "QrStUvWxYz-0-9-a")
  pub seventeen : Refuses (chain "ABCDEFGHIJKLMNOPQ B" "B" "B") (refuse 1 2 0)
  pub before_capitals : Refuses (chain "a@ b" "b" "b") (refuse 1 2 0)
  pub begins_before_capitals : Refuses (chain "@a b" "b" "b") (refuse 1 2 0)
  pub after_capitals : Refuses (chain "a[ b" "b" "b") (refuse 1 2 0)
  pub underscore : Refuses (chain "a_ b" "b" "b") (refuse 1 2 0)
  pub before_small : Refuses (chain "a` b" "b" "b") (refuse 1 2 0)
  pub after_small : Refuses (chain "a{ b" "b" "b") (refuse 1 2 0)
  pub beside_on_a_step : Refuses (chain "a b" "a" "b@") (refuse 1 4 0)
  pub begins_with_hyphen : Refuses (chain "-A b" "b" "b") (refuse 1 2 0)
  pub begins_with_digit : Refuses (chain "1A b" "b" "b") (refuse 1 2 0)
  -- other bytes stay: a digit is not the letter 32 further on, nor the byte 32 before it
  pub digits_apart : Writes (chain "a1 aQ" "A1" "aq") (chain_sheet "a1" "aQ")
  pub digit_0_apart : Writes (chain "a0 aP" "A0" "Ap") (chain_sheet "a0" "aP")
  pub digit_9_apart : Writes (chain "a9 aY" "a9" "AY") (chain_sheet "a9" "aY")
  pub digit_17 : Refuses (chain "a1 b" "a\u{11}" "b") (refuse 1 3 0)
  pub hyphen_apart : Writes (chain "a-b aMb" "A-B" "AmB") (chain_sheet "a-b" "aMb")
  pub hyphen_13 : Refuses (chain "a-b b" "a\rb" "b") (refuse 1 3 0)
  -- the words of the form are no names
  pub keyword_states : Refuses "(States 1)\n(events)\n(machine (0))\n" (refuse 1 1 0)
  pub keyword_start : Refuses "(states 1 Start 0)\n(events)\n(machine (0))\n" (refuse 1 1 0)
  pub keyword_events : Refuses "(states 1)\n(EVENTS)\n(machine (0))\n" (refuse 1 2 0)
  pub keyword_step : Refuses "(states 2)\n(events a)\n(Step 0 a 1)\n(machine (0 1))\n" (refuse 1 3 0)
  pub keyword_machine : Refuses "(states 1)\n(events)\n(MACHINE (0))\n" (refuse 1 3 0)
  pub keywords_as_names : Writes (chain "Step MACHINE" "step" "machine") (chain_sheet "Step" "MACHINE")

pub spelt_texts : SpeltTexts
unfolding Writes Refuses Runs Keeps exists every first index count satisfying is_some is_empty elem lowest or_else flatten flat_map leads declared transition_refusal transitions_refusal unused_event exits with_target
    grown reached unreachable_state system_refusal place_in places crosses move in_alphabet effective move_from fire both fire_all product_step duplicate_state unplaced_state transitions_of enters all_or_none uniform
    nonuniform_event ineffective_event in_pre ready common excited open_state open_event closure_refusal machine_refusal machines_refusal cover_refusal select suffices try_drop thin_below kept_marks is_digit is_letter
    is_capital lower is_name_byte is_figure is_name digits is_machine_line is_step_line start_given states_line spaced_name events_line step_line spaced_figure place machine_line line_after event_number value_of distinct
    in_limit is_declared ended line_then lines_from read as_far_as7 as_far_as10 as_far_as12 lend add_move moves_below sheet_line sheet_lines move_bytes written_move written_line written_count written_sheet board_of sheet
    check steps blocker one_more run_from outcome_of padded ran_answer run_events run kept_of thin removed merge_places merge_machine merge_in place_count mergeable partner lower_place merge_with merge_lower merge_first
    merge_times merged_below merged merged_input merge name line_two name_at written_refusal numeral numeral_up_to printed_by fitting printed_check name_line printed_name printed_merge
spelt_texts =
    record {
      as_declared = refl;
      all_small = refl;
      all_capitals = refl;
      as_declared_13 = refl;
      merged_as_declared = refl;
      listed = refl;
      run_by_number = refl;
      thinned = refl;
      named = refl;
      name_printed = refl;
      check_printed = refl;
      merge_printed = refl;
      declared_twice = refl;
      declared_twice_apart = refl;
      undeclared = refl;
      begins_alike = refl;
      goes_on = refl;
      same_event_from_0 = refl;
      first_and_last = refl;
      sixteen = refl;
      seventeen = refl;
      before_capitals = refl;
      begins_before_capitals = refl;
      after_capitals = refl;
      underscore = refl;
      before_small = refl;
      after_small = refl;
      beside_on_a_step = refl;
      begins_with_hyphen = refl;
      begins_with_digit = refl;
      digits_apart = refl;
      digit_0_apart = refl;
      digit_9_apart = refl;
      digit_17 = refl;
      hyphen_apart = refl;
      hyphen_13 = refl;
      keyword_states = refl;
      keyword_start = refl;
      keyword_events = refl;
      keyword_step = refl;
      keyword_machine = refl;
      keywords_as_names = refl;
    }

pub record SpeltSheets : Type 0 where
  -- the own sheet of a text, with the names in any case
  pub own : RunsNames (sheet_of "READY" "BRAKE" "HOME") "ready\nbrake\nhome\nhome\n" (blocked 3 0) (replicate 16 0)
  pub own_mixed : RunsNames (sheet_of "Ready" "BRAKE" "home") "brakE\nREADY\n" whole (1 ∷ 1 ∷ replicate 14 0)
  pub any_case : RunsNames y_sheet "READY\nbrake\nHome\nhome\n" (blocked 3 0) (replicate 16 0)
  pub by_machine_1 : RunsNames y_sheet "Ready\nHOME\n" (blocked 1 1) (1 ∷ replicate 15 0)
  -- "sheets included": an event that machines name in two ways is one
  pub one_event : RunsNames two_ways "ready\n" whole (1 ∷ 1 ∷ replicate 14 0)
  pub once : RunsNames two_ways "READY\nready\n" (blocked 1 0) (1 ∷ 1 ∷ replicate 14 0)
  pub named_twice : Refuses15 "(accepted 1)\n(machine 0 (places 3) (start 0) (move a 0 1) (move A 1 2))\n" 2
  pub names_64 : is_some (refusal_of (read_sheet (with_names 64 "A63"))) ≡ false
  pub names_65 : read_sheet (with_names 64 "A64") ≡ refused (refuse 15 3 0)
  -- "a sheet that was read keeps its own spelling"
  pub own_spelling : Rewrites two_ways
  pub small_and_capitals : Rewrites (sheet_of "READY" "brake" "hOME")
  pub digits_apart : Rewrites (chain_sheet "a1" "aQ")
  pub hyphen_apart : Rewrites (chain_sheet "a-b" "aMb")
  pub sixteen : Rewrites (chain_sheet "ABCDEFGHIJKLMNOP" "Z")
  pub seventeen : Refuses15 (chain_sheet "ABCDEFGHIJKLMNOPQ" "Z") 2
  pub before_capitals : Refuses15 (chain_sheet "a@" "b") 2
  pub after_capitals : Refuses15 (chain_sheet "a" "b[") 2
  -- the bytes of a name that is handed over are compared, whatever they are
  pub before_capitals_14 : RunsNames (chain_sheet "a" "b") "a\nb@\n" (refused_by (refuse 14 1 0)) (replicate 16 0)
  pub digit_is_no_letter : RunsNames (chain_sheet "aQ" "b") "aq\na1\n" (refused_by (refuse 14 1 0)) (replicate 16 0)
  pub letter_is_no_digit : RunsNames (chain_sheet "a1" "b") "A1\naQ\n" (refused_by (refuse 14 1 0)) (replicate 16 0)
  pub digit_17 : RunsNames (chain_sheet "a1" "b") "a\u{11}\n" (refused_by (refuse 14 0 0)) (replicate 16 0)
  pub hyphen_13 : RunsNames (chain_sheet "a-" "b") "A-\nb\na\r\n" (refused_by (refuse 14 2 0)) (replicate 16 0)
  pub keyword_accepted : Refuses15 "(Accepted 1)\n(machine 0 (places 1) (start 0))\n" 1
  pub keyword_machine : Refuses15 "(accepted 1)\n(Machine 0 (places 1) (start 0))\n" 2
  pub keyword_places : Refuses15 "(accepted 1)\n(machine 0 (Places 1) (start 0))\n" 2
  pub keyword_start : Refuses15 "(accepted 1)\n(machine 0 (places 1) (START 0))\n" 2
  pub keyword_move : Refuses15 "(accepted 1)\n(machine 0 (places 2) (start 0) (Move a 0 1))\n" 2

pub spelt_sheets : SpeltSheets
unfolding with_names numbers Refuses15 Rewrites RunsNames exists every first index is_some is_empty flat_map move_from both one_more in_alphabet effective fire fire_all product_step blocker run_from is_digit is_letter
    is_capital lower is_name_byte is_figure is_name digits distinct move_bytes written_move written_line written_count written_sheet count_form move_form head_form line_form lend outcome_of padded ran_answer is_good_move
    add_name add_names names_on is_good_line machine_then machines_from count_then read_sheet rewrite move_on start_places split_names run_names board_run
spelt_sheets =
    record {
      own = refl;
      own_mixed = refl;
      any_case = refl;
      by_machine_1 = refl;
      one_event = refl;
      once = refl;
      named_twice = refl;
      names_64 = refl;
      names_65 = refl;
      own_spelling = refl;
      small_and_capitals = refl;
      digits_apart = refl;
      hyphen_apart = refl;
      sixteen = refl;
      seventeen = refl;
      before_capitals = refl;
      after_capitals = refl;
      before_capitals_14 = refl;
      digit_is_no_letter = refl;
      letter_is_no_digit = refl;
      digit_17 = refl;
      hyphen_13 = refl;
      keyword_accepted = refl;
      keyword_machine = refl;
      keyword_places = refl;
      keyword_start = refl;
      keyword_move = refl;
    }
