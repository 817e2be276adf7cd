-- Splits that are merged, from the bytes of each text to the answer, computed (`merged_sheets`). Document 02, slip 4.
use Rattle.std.specs.Prelude.{ℕ, ◌≡◌, refl, Bool, true, false, length, replicate}
use Prim.Native.String.{String, ◌++◌}
use mathlib.Core.List.{[], ◌∷◌, flat_map, flatten}
use Rattle.std.proofs.Math.Option.{or_else}
use Rattle.model.specs.Lists.{exists, every, first, index, count, satisfying, is_some, is_empty, elem, lowest}
use Rattle.model.specs.Refusal.{Refusal, refuse, refused, passed}
use Rattle.model.specs.TransitionSystem.{leads, transition_refusal, transitions_refusal, unused_event, exits, with_target, grown, reached, unreachable_state, system_refusal}
use Rattle.model.specs.Product.{in_alphabet, effective}
use Rattle.model.specs.Machine.{Machine, Decomposition, place_in, crosses, move, duplicate_state, unplaced_state, transitions_of, enters, all_or_none, uniform, nonuniform_event, ineffective_event, in_pre, ready, common, excited, open_state, open_event, closure_refusal, machine_refusal, machines_refusal, cover_refusal}
use Rattle.model.specs.Bytes.{bytes, is_digit, is_letter, is_capital, lower, is_name_byte, is_figure, is_name, digits}
use Rattle.model.specs.Form.{is_machine_line, is_step_line, start_given, states_line, spaced_name, events_line, step_line, spaced_figure, place, machine_line, line_after}
use Rattle.model.specs.Text.{Input, system, event_number, value_of, distinct, in_limit, is_declared, ended, line_then, lines_from, read}
use Rattle.model.specs.Sheet.{add_move, moves_below, sheet_line, sheet_lines, move_bytes, written_move, written_line, written_count, written_sheet, board_of, sheet}
use Rattle.model.specs.Merging.{removed, merge_places, merge_machine, merge_in, place_count, mergeable, partner, lower_place, merge_with, merge_lower, merge_first, merge_times, merged_below, merged, merged_input}
use Rattle.model.specs.Services.{as_far_as7, as_far_as10, as_far_as12, lend, check, merge}
use Rattle.model.specs.Examples.{Y, Y0, Y1, Q}
use Rattle.model.specs.Starts.{y_away, y_sheet}

-- four states in a ring, and machines for it
abbrev pub ring : String
ring = "(states 4)\n(events a b c d)\n(step 0 a 1)\n(step 1 b 2)\n(step 2 c 3)\n(step 3 d 0)\n"

abbrev pub ring4 : String
ring4 = "(machine (0) (1) (2) (3))\n"

abbrev pub ring3 : String
ring3 = "(machine (0) (1) (2 3))\n"

abbrev pub halves : String
halves = "(machine (0 1) (2 3))\n"

abbrev pub other_halves : String
other_halves = "(machine (1 2) (0 3))\n"

-- the ring as a value, with these machines
abbrev pub ring_input : Decomposition → Input
ring_input ms =
    record {
      states = 4;
      initial = 0;
      names = bytes "a" ∷ bytes "b" ∷ bytes "c" ∷ bytes "d" ∷ [];
      transitions =
          record { source = 0; event = 0; target = 1 }
          ∷ record { source = 1; event = 1; target = 2 }
          ∷ record { source = 2; event = 2; target = 3 }
          ∷ record { source = 3; event = 3; target = 0 }
          ∷ [];
      machines = ms;
    }

abbrev pub four : Machine
four = record { places = (0 ∷ []) ∷ (1 ∷ []) ∷ (2 ∷ []) ∷ (3 ∷ []) ∷ [] }

abbrev pub three : Machine
three = record { places = (0 ∷ []) ∷ (1 ∷ []) ∷ (2 ∷ 3 ∷ []) ∷ [] }

-- merge with just as many bytes lent as the sheet has
unfoldable pub MergesTo : String → String → Type 0
MergesTo text sheet = merge (bytes text) (replicate (length (bytes sheet)) 0) ≡ record { answer = passed (length (bytes sheet)); left = bytes sheet }

-- merge and check answer alike, with so many bytes lent
unfoldable pub AsCheck : String → ℕ → Type 0
AsCheck text n = merge (bytes text) (replicate n 7) ≡ check (bytes text) (replicate n 7)

-- refused, one byte lent
unfoldable pub MergeRefuses : String → Refusal → Type 0
MergeRefuses text r = merge (bytes text) (7 ∷ []) ≡ record { answer = refused r; left = 7 ∷ [] }

-- whether places i and j of machine 0 can be merged, on the ring
unfoldable pub CanMerge : Decomposition → ℕ → ℕ → Bool → Type 0
CanMerge ms i j b = mergeable (system (ring_input ms)) 0 ms i j ≡ b

pub record MergedSheets : Type 0 where
  pub y_has_no_pair : MergesTo (Y ++ Y0 ++ Y1) (y_sheet "0")
  pub y_as_check : AsCheck (Y ++ Y0 ++ Y1) 145
  pub y_start_3 : MergesTo y_away (y_sheet "1")
  -- of two equal machines the first gives all its places away, and then the second none
  pub first_to_one_place : MergesTo (ring ++ ring4 ++ ring4) "(accepted 2)\n(machine 0 (places 1) (start 0))\n(machine 1 (places 4) (start 0) (move a 0 1) (move b 1 2) (move c 2 3) (move d 3 0))\n"
  pub beside_halves : MergesTo (ring ++ ring4 ++ halves) "(accepted 2)\n(machine 0 (places 3) (start 0) (move a 0 1) (move b 1 2) (move c 2 1) (move d 1 0))\n(machine 1 (places 2) (start 0) (move b 0 1) (move d 1 0))\n"
  -- the second is asked beside the merged first
  pub second_too : MergesTo (ring ++ ring4 ++ "(machine (0 1) (2) (3))\n") "(accepted 2)\n(machine 0 (places 3) (start 0) (move a 0 1) (move b 1 2) (move c 2 1) (move d 1 0))\n(machine 1 (places 2) (start 0) (move b 0 1) (move d 1 0))\n"
  pub higher_close_up : MergesTo (ring ++ halves ++ ring4 ++ other_halves) "(accepted 3)\n(machine 0 (places 1) (start 0))\n(machine 1 (places 3) (start 0) (move a 0 1) (move b 1 0) (move c 0 2) (move d 2 0))\n(machine 2 (places 2) (start 1) (move a 1 0) (move c 0 1))\n"
  -- the order decides: two pairs can be merged, and after either the other no longer can
  pub two_pairs : as_far_as12 (bytes (ring ++ ring4 ++ ring3)) ≡ passed (ring_input (four ∷ three ∷ []))
  pub pair_0_1 : CanMerge (four ∷ three ∷ []) 0 1 true
  pub pair_1_3 : CanMerge (four ∷ three ∷ []) 1 3 true
  pub after_0_1 : merge_in 0 0 1 (four ∷ three ∷ []) ≡ record { places = (0 ∷ 1 ∷ []) ∷ (2 ∷ []) ∷ (3 ∷ []) ∷ [] } ∷ three ∷ []
  pub not_1_3_after_0_1 : CanMerge (merge_in 0 0 1 (four ∷ three ∷ [])) 0 2 false
  pub after_1_3 : merge_in 0 1 3 (four ∷ three ∷ []) ≡ record { places = (0 ∷ []) ∷ (1 ∷ 3 ∷ []) ∷ (2 ∷ []) ∷ [] } ∷ three ∷ []
  pub not_0_1_after_1_3 : CanMerge (merge_in 0 1 3 (four ∷ three ∷ [])) 0 1 false
  pub lower_pair_merged : MergesTo (ring ++ ring4 ++ ring3) "(accepted 2)\n(machine 0 (places 3) (start 0) (move b 0 1) (move c 1 2) (move d 2 0))\n(machine 1 (places 3) (start 0) (move a 0 1) (move b 1 2) (move d 2 0))\n"
  -- 13 with the merged sheet's size, and nothing is written
  pub one_byte_short : merge (bytes (ring ++ ring4 ++ ring4)) (replicate 130 7) ≡ record { answer = refused (refuse 13 131 0); left = replicate 130 7 }
  pub q_refused : MergeRefuses Q (refuse 12 0 2)
  pub q_refused_as_check : AsCheck Q 1
  pub y_alone_refused : MergeRefuses (Y ++ Y0) (refuse 11 1 0)
  pub y_alone_refused_as_check : AsCheck (Y ++ Y0) 1

pub merged_sheets : MergedSheets
unfolding MergesTo AsCheck MergeRefuses CanMerge exists every first index count satisfying is_some is_empty elem lowest or_else flatten flat_map leads transition_refusal transitions_refusal unused_event
    exits with_target grown reached unreachable_state system_refusal place_in crosses move in_alphabet effective duplicate_state unplaced_state transitions_of enters all_or_none uniform nonuniform_event
    ineffective_event in_pre ready common excited open_state open_event closure_refusal machine_refusal machines_refusal cover_refusal is_digit is_letter is_capital lower is_name_byte is_figure is_name digits is_machine_line
    is_step_line start_given states_line spaced_name events_line step_line spaced_figure place machine_line line_after event_number value_of distinct in_limit is_declared ended line_then lines_from read as_far_as7
    as_far_as10 as_far_as12 lend add_move moves_below sheet_line sheet_lines move_bytes written_move written_line written_count written_sheet board_of sheet check removed merge_places merge_machine merge_in
    place_count mergeable partner lower_place merge_with merge_lower merge_first merge_times merged_below merged merged_input merge
merged_sheets =
    record {
      y_has_no_pair = refl;
      y_as_check = refl;
      y_start_3 = refl;
      first_to_one_place = refl;
      beside_halves = refl;
      second_too = refl;
      higher_close_up = refl;
      two_pairs = refl;
      pair_0_1 = refl;
      pair_1_3 = refl;
      after_0_1 = refl;
      not_1_3_after_0_1 = refl;
      after_1_3 = refl;
      not_0_1_after_1_3 = refl;
      lower_pair_merged = refl;
      one_byte_short = refl;
      q_refused = refl;
      q_refused_as_check = refl;
      y_alone_refused = refl;
      y_alone_refused_as_check = refl;
    }
