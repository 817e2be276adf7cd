-- What the program answers on the plan Y, on a ring that is merged and quoted, and on the sheet of Y, by computation.
use Rattle.std.specs.Prelude.{◌≡◌, refl, ℕ}
use mathlib.Core.List.{List, [], ◌∷◌, flat_map, flatten}
use Rattle.std.proofs.Math.Option.{none, some, or_else}
use Prim.Native.String.{String, ◌++◌}
use Rattle.model.specs.Lists.{exists, every, first, index, count, satisfying, is_some, is_empty, numbers, elem, lowest}
use Rattle.model.specs.TransitionSystem.{leads, declared, transition_refusal, transitions_refusal, unused_event, exits, with_target, grown, reached, unreachable_state, system_refusal}
use Rattle.model.specs.Product.{move_from, both, one_more, in_alphabet, effective, fire, fire_all, product_step, blocker, run_from}
use Rattle.model.specs.Machine.{place_in, places, crosses, move, duplicate_state, unplaced_state, transitions_of, enters, all_or_none, uniform, nonuniform_event, ineffective_event, in_pre, ready, common, excited, open_state, open_event, closure_refusal, machine_refusal, machines_refusal, cover_refusal, select, suffices, try_drop, thin_below, kept_marks}
use Rattle.model.specs.Bytes.{bytes, is_digit, is_letter, is_capital, lower, is_name_byte, is_figure, is_name, digits, numeral, numeral_up_to}
use Rattle.model.specs.Form.{is_machine_line, is_step_line, start_given, states_line, spaced_name, events_line, step_line, spaced_figure, place, machine_line, line_after}
use Rattle.model.specs.Text.{event_number, value_of, distinct, in_limit, is_declared, ended, line_then, lines_from, read, line_two, name_at}
use Rattle.model.specs.Sheet.{add_move, moves_below, sheet_line, sheet_lines, move_bytes, written_move, written_line, written_count, written_sheet, board_of, sheet, count_form, move_form, head_form, line_form}
use Rattle.model.specs.Board.{is_good_move, add_name, add_names, names_on, is_good_line, machine_then, machines_from, count_then, read_sheet, move_on, start_places, split_names, run_names}
use Rattle.model.specs.Merging.{removed, merge_places, merge_machine, merge_in, place_count, mergeable, partner, lower_place, merge_with, merge_lower, merge_first, merge_times, merged_below, merged, merged_input}
use Rattle.model.specs.Cents.{half_cent, rebate, rebated, sum, signed_numeral}
use Rattle.model.specs.Quotation.{machine_price, wire_price, credit_price, is_kept, sharers, machine_charge, wire_charge, credit_charge, chosen, machine_charges, wire_charges, credit_charges, charges, written_item, written_charge, total, written_total, written_charges, quotation}
use Rattle.model.specs.Printed.{printed_by, fitting, spaced, printed_check, printed_merge, printed_quote, name_line, printed_name, ran_word, places_word, ran_line, printed_run, printed_sheet, printed_board}
use Rattle.model.specs.Services.{as_far_as7, as_far_as10, as_far_as12, name, run_events, printed, written_answer, written_refusal}
use Rattle.model.specs.Examples.{Y, Y0, Y1}
use Rattle.sheet_examples.specs.Examples.{y_sheet}
use Rattle.command_line.specs.Words.{service_said, is_numeral, is_name_word, number_said, event_said}
use Rattle.command_line.specs.WordRow.{begun_by, words_in}
use Rattle.command_line.specs.Program.{size_said, one_event_said, before, events_said, names_of, answer_by, answer_to}

pub record AnswersOnY (y : List ℕ) : Type 0 where
  pub no_word : answer_to [] y
      ≡ some (bytes "(accepted 2)\n(machine 0 (places 2) (start 0) (move ready 0 1) (move home 1 0))\n(machine 1 (places 2) (start 0) (move brake 0 1) (move home 1 0))\n")
  pub short : answer_to (bytes "check" ∷ bytes "144" ∷ []) y ≡ some (bytes "(refused 13 145 0)\n")
  pub named : answer_to (bytes "name" ∷ bytes "brake" ∷ []) y ≡ some (bytes "brake\n")
  pub ran : answer_to (bytes "run" ∷ bytes "ready" ∷ bytes "1" ∷ []) y ≡ some (bytes "(whole (places 1 1))\n")
  pub two_names : answer_to (bytes "name" ∷ bytes "ready" ∷ bytes "brake" ∷ []) y ≡ none
  -- an event in any case, spelt as the text declares it; a service as it is
  pub named_in_capitals : answer_to (bytes "name" ∷ bytes "Home" ∷ []) y ≡ some (bytes "home\n")
  pub ran_in_capitals : answer_to (bytes "run" ∷ bytes "READY" ∷ bytes "bRAKe" ∷ bytes "Home" ∷ bytes "home" ∷ []) y ≡ some (bytes "(blocked 3 0 (places 0 0))\n")
  pub undeclared : answer_to (bytes "run" ∷ bytes "READY" ∷ bytes "STEADY" ∷ []) y ≡ some (bytes "(refused 14 1 0)\n")
  pub beside_letters : answer_to (bytes "name" ∷ bytes "HOM@" ∷ []) y ≡ none
  pub capitals : answer_to (bytes "CHECK" ∷ []) y ≡ none
  pub service_in_capitals : answer_to (bytes "Run" ∷ bytes "ready" ∷ []) y ≡ none

pub answers_on_y : AnswersOnY (bytes (Y ++ Y0 ++ Y1))
unfolding exists every first index count satisfying is_some is_empty numbers elem lowest or_else flat_map flatten leads declared transition_refusal transitions_refusal
    unused_event exits with_target grown reached unreachable_state system_refusal move_from both one_more in_alphabet effective fire fire_all product_step blocker run_from place_in
    places crosses move duplicate_state unplaced_state transitions_of enters all_or_none uniform nonuniform_event ineffective_event in_pre ready common excited open_state
    open_event closure_refusal machine_refusal machines_refusal cover_refusal is_digit is_letter is_capital lower is_name_byte is_figure is_name digits numeral numeral_up_to is_machine_line
    is_step_line start_given states_line spaced_name events_line step_line spaced_figure place machine_line line_after event_number value_of distinct in_limit is_declared ended line_then
    lines_from read line_two name_at add_move moves_below sheet_line sheet_lines move_bytes written_move written_line written_count written_sheet board_of sheet printed_by fitting spaced printed_check name_line
    printed_name ran_word places_word ran_line printed_run as_far_as7 as_far_as10 as_far_as12 name run_events printed written_answer written_refusal service_said is_numeral
    is_name_word number_said event_said size_said one_event_said before events_said names_of answer_by answer_to
answers_on_y =
    record {
      no_word = refl;
      short = refl;
      named = refl;
      ran = refl;
      two_names = refl;
      named_in_capitals = refl;
      ran_in_capitals = refl;
      undeclared = refl;
      beside_letters = refl;
      capitals = refl;
      service_in_capitals = refl;
    }

-- a ring of three states on three machines
abbrev ring : String
ring = "(states 3)\n(events a b c)\n(step 0 a 1)\n(step 1 b 2)\n(step 2 c 0)\n(machine (0) (1) (2))\n(machine (0) (1 2))\n(machine (0 1) (2))\n"

-- Of machine 0, places 0 and 1 are left apart: b would be open in state 0. Places 0 and 2 are merged, and c leaves the machine.
pub record AnswersMerged (r y : List ℕ) : Type 0 where
  pub fewer : answer_to (bytes "merge" ∷ []) r
      ≡ some (bytes "(accepted 3)\n(machine 0 (places 2) (start 0) (move a 0 1) (move b 1 0))\n(machine 1 (places 2) (start 0) (move a 0 1) (move c 1 0))\n(machine 2 (places 2) (start 0) (move b 0 1) (move c 1 0))\n")
  pub short : answer_to (bytes "merge" ∷ bytes "189" ∷ []) r ≡ some (bytes "(refused 13 190 0)\n")
  pub two_sizes : answer_to (bytes "merge" ∷ bytes "1" ∷ bytes "2" ∷ []) r ≡ none
  -- no two places of Y can be one
  pub same : answer_to (bytes "merge" ∷ []) y ≡ answer_to [] y

pub answers_merged : AnswersMerged (bytes ring) (bytes (Y ++ Y0 ++ Y1))
unfolding exists every first index count satisfying is_some is_empty numbers elem lowest or_else flat_map flatten leads declared transition_refusal transitions_refusal
    unused_event exits with_target grown reached unreachable_state system_refusal in_alphabet effective place_in places crosses move duplicate_state unplaced_state transitions_of enters all_or_none uniform nonuniform_event
    ineffective_event in_pre ready common excited open_state open_event closure_refusal machine_refusal machines_refusal cover_refusal is_digit is_letter is_capital lower is_name_byte is_figure is_name digits numeral
    numeral_up_to is_machine_line is_step_line start_given states_line spaced_name events_line step_line spaced_figure place machine_line line_after event_number value_of distinct in_limit is_declared ended
    line_then lines_from read add_move moves_below sheet_line sheet_lines move_bytes written_move written_line written_count written_sheet board_of sheet removed merge_places merge_machine merge_in place_count
    mergeable partner lower_place merge_with merge_lower merge_first merge_times merged_below merged merged_input printed_by fitting printed_merge as_far_as7 as_far_as10 as_far_as12 printed written_answer
    written_refusal service_said is_numeral number_said size_said answer_by answer_to
answers_merged = record { fewer = refl; short = refl; two_sizes = refl; same = refl }

-- Of the ring machine 0 alone is kept, with three places; the other two are credited, and nothing is wired.
pub record AnswersQuoted (r y : List ℕ) : Type 0 where
  pub on_y : answer_to (bytes "quote" ∷ []) y ≡ some (bytes "(line machine 0 40028)\n(line machine 1 40028)\n(line wire home 618)\n(total 80674)\n")
  pub fits : answer_to (bytes "quote" ∷ bytes "81" ∷ []) y ≡ answer_to (bytes "quote" ∷ []) y
  pub short : answer_to (bytes "quote" ∷ bytes "80" ∷ []) y ≡ some (bytes "(refused 13 81 0)\n")
  pub two_sizes : answer_to (bytes "quote" ∷ bytes "1" ∷ bytes "2" ∷ []) y ≡ none
  pub credited : answer_to (bytes "quote" ∷ []) r ≡ some (bytes "(line machine 0 40202)\n(line credit 1 -4535)\n(line credit 2 -4535)\n(total 31132)\n")

pub answers_quoted : AnswersQuoted (bytes ring) (bytes (Y ++ Y0 ++ Y1))
unfolding exists every first index count satisfying is_some is_empty numbers elem lowest or_else flat_map flatten leads declared transition_refusal transitions_refusal
    unused_event exits with_target grown reached unreachable_state system_refusal in_alphabet effective place_in places crosses move duplicate_state unplaced_state transitions_of enters all_or_none uniform nonuniform_event
    ineffective_event in_pre ready common excited open_state open_event closure_refusal machine_refusal machines_refusal cover_refusal select suffices try_drop thin_below kept_marks is_digit is_letter is_capital lower
    is_name_byte is_figure is_name digits numeral numeral_up_to is_machine_line is_step_line start_given states_line spaced_name events_line step_line spaced_figure place machine_line line_after event_number value_of
    distinct in_limit is_declared ended line_then lines_from read place_count half_cent rebate rebated sum signed_numeral machine_price wire_price credit_price is_kept sharers machine_charge wire_charge credit_charge
    chosen machine_charges wire_charges credit_charges charges written_item written_charge total written_total written_charges quotation printed_by fitting printed_quote as_far_as7 as_far_as10 as_far_as12
    written_refusal service_said is_numeral number_said size_said answer_by answer_to
answers_quoted = record { on_y = refl; fits = refl; short = refl; two_sizes = refl; credited = refl }

pub record AnswersOnSheet (y : List ℕ) : Type 0 where
  pub written : answer_to (bytes "sheet" ∷ []) y ≡ some y
  pub short : answer_to (bytes "sheet" ∷ bytes "144" ∷ []) y ≡ some (bytes "(refused 13 145 0)\n")
  pub ran : answer_to (bytes "board" ∷ bytes "ready" ∷ bytes "brake" ∷ []) y ≡ some (bytes "(whole (places 1 1))\n")
  pub blocked : answer_to (bytes "board" ∷ bytes "ready" ∷ bytes "ready" ∷ []) y ≡ some (bytes "(blocked 1 0 (places 1 0))\n")
  pub in_capitals : answer_to (bytes "board" ∷ bytes "READY" ∷ bytes "Brake" ∷ []) y ≡ some (bytes "(whole (places 1 1))\n")
  pub no_name : answer_to (bytes "board" ∷ bytes "ready" ∷ bytes "1" ∷ []) y ≡ some (bytes "(refused 14 1 0)\n")
  pub two_sizes : answer_to (bytes "sheet" ∷ bytes "1" ∷ bytes "2" ∷ []) y ≡ none
  -- a text is no sheet
  pub text : answer_to (bytes "board" ∷ []) (bytes Y) ≡ some (bytes "(refused 15 1 0)\n")
  pub text_again : answer_to (bytes "sheet" ∷ []) (bytes Y) ≡ some (bytes "(refused 15 1 0)\n")
  -- 15 comes before 13
  pub text_short : answer_to (bytes "sheet" ∷ bytes "0" ∷ []) (bytes Y) ≡ some (bytes "(refused 15 1 0)\n")

pub answers_on_sheet : AnswersOnSheet (bytes y_sheet)
unfolding exists every first index is_some is_empty flat_map flatten move_from both one_more in_alphabet effective fire fire_all product_step blocker run_from is_digit is_letter
    is_capital lower is_name_byte is_figure is_name digits numeral numeral_up_to distinct move_bytes written_move written_line written_count written_sheet count_form move_form head_form line_form is_good_move
    add_name add_names names_on is_good_line machine_then machines_from count_then read_sheet move_on start_places split_names run_names printed_by fitting spaced ran_word places_word
    ran_line printed_sheet printed_board written_refusal service_said is_numeral number_said size_said answer_by answer_to
answers_on_sheet = record { written = refl; short = refl; ran = refl; blocked = refl; in_capitals = refl; no_name = refl; two_sizes = refl; text = refl; text_again = refl; text_short = refl }

-- a row of three words, the second empty, the last with no byte 0 behind it
pub three_words : words_in (97 ∷ 98 ∷ 0 ∷ 0 ∷ 99 ∷ []) ≡ (97 ∷ 98 ∷ []) ∷ [] ∷ (99 ∷ []) ∷ []
unfolding begun_by words_in
three_words = refl
