-- Sheets that are read and run, computed (`boards`). Document 02, slip 1.
use Rattle.std.specs.Prelude.{ℕ, suc, ◌≡◌, refl, false, length, replicate}
use Prim.Native.String.{String}
use mathlib.Core.List.{List, [], ◌∷◌, ◌++◌, flat_map}
use Rattle.model.specs.Lists.{numbers, exists, every, first, index, is_some, is_empty}
use Rattle.model.specs.Refusal.{refuse, refused, passed, refusal_of}
use Rattle.model.specs.Product.{move_from, both, one_more, in_alphabet, effective, fire, fire_all, product_step, blocker, run_from}
use Rattle.model.specs.Bytes.{bytes, is_digit, is_letter, is_capital, lower, is_name_byte, is_figure, is_name, digits}
use Rattle.model.specs.Text.{distinct}
use Rattle.model.specs.Sheet.{move_bytes, written_move, written_line, written_count, written_sheet, count_form, move_form, head_form, line_form}
use Rattle.model.specs.Services.{lend, Outcome, whole, blocked, refused_by, outcome_of, padded, ran_answer}
use Rattle.model.specs.Board.{is_good_move, add_name, add_names, names_on, is_good_line, machine_then, machines_from, count_then, read_sheet, rewrite, move_on, start_places, split_names, run_names, board_run}

-- the sheet of the plan Y
abbrev pub y_sheet : String
y_sheet = "(accepted 2)\n(machine 0 (places 2) (start 0) (move ready 0 1) (move home 1 0))\n(machine 1 (places 2) (start 0) (move brake 0 1) (move home 1 0))\n"

-- a sheet whose machine does not start in place 0
abbrev pub start_sheet : String
start_sheet = "(accepted 1)\n(machine 0 (places 3) (start 1) (move a 1 2) (move b 2 0))\n"

-- refused by 15 with this line, one byte lent
unfoldable pub Refuses15 : String → ℕ → Type 0
Refuses15 s l = rewrite (bytes s) (7 ∷ []) ≡ record { answer = refused (refuse 15 l 0); left = 7 ∷ [] }

-- read, and written again into as many bytes and one more
unfoldable pub Rewrites : String → Type 0
Rewrites s = rewrite (bytes s) (replicate (suc (length (bytes s))) 7) ≡ record { answer = passed (length (bytes s)); left = bytes s ++ (7 ∷ []) }

-- on a sheet, a list of names comes to this, with these places
unfoldable pub RunsNames : String → String → Outcome → List ℕ → Type 0
RunsNames s t o qs = board_run (bytes s) (bytes t) ≡ record { outcome = o; places = qs }

-- a machine with a move of each of so many names, a0, a1 and so on, and one with a move of this name
unfoldable pub with_names : ℕ → String → List ℕ
with_names n name =
    bytes "(accepted 2)\n(machine 0 (places 2) (start 0)"
    ++ (flat_map (λ i. bytes " (move a" ++ (digits i ++ bytes " 0 1)")) (numbers n) ++ (bytes ")\n(machine 1 (places 2) (start 0) (move " ++ (bytes name ++ bytes " 0 1))\n")))

pub record Boards : Type 0 where
  pub own : Rewrites y_sheet
  pub empty : Refuses15 "" 1
  pub no_machines_lem : Refuses15 "(accepted 0)\n" 1
  pub seventeen : Refuses15 "(accepted 17)\n" 1
  pub only_count : Refuses15 "(accepted 2)\n" 2
  pub one_missing : Refuses15 "(accepted 2)\n(machine 0 (places 2) (start 0) (move ready 0 1) (move home 1 0))\n" 3
  pub one_too_many : Refuses15 "(accepted 1)\n(machine 0 (places 2) (start 0) (move ready 0 1) (move home 1 0))\n(machine 1 (places 2) (start 0) (move brake 0 1) (move home 1 0))\n" 3
  pub not_ended : Refuses15 "(accepted 2)\n(machine 0 (places 2) (start 0) (move ready 0 1) (move home 1 0))\n(machine 1 (places 2) (start 0) (move brake 0 1) (move home 1 0))" 3
  pub rubbish_after : Refuses15 "(accepted 2)\n(machine 0 (places 2) (start 0) (move ready 0 1) (move home 1 0))\n(machine 1 (places 2) (start 0) (move brake 0 1) (move home 1 0))\nx" 4
  pub blank_line_after : Refuses15 "(accepted 2)\n(machine 0 (places 2) (start 0) (move ready 0 1) (move home 1 0))\n(machine 1 (places 2) (start 0) (move brake 0 1) (move home 1 0))\n\n" 4
  pub number_wrong : Refuses15 "(accepted 2)\n(machine 0 (places 2) (start 0) (move ready 0 1) (move home 1 0))\n(machine 0 (places 2) (start 0) (move ready 0 1) (move home 1 0))\n" 3
  pub start_high : Refuses15 "(accepted 1)\n(machine 0 (places 2) (start 2))\n" 2
  pub pre_high : Refuses15 "(accepted 1)\n(machine 0 (places 2) (start 0) (move a 2 0))\n" 2
  pub end_high : Refuses15 "(accepted 1)\n(machine 0 (places 2) (start 0) (move a 0 2))\n" 2
  pub equal_ends : Refuses15 "(accepted 1)\n(machine 0 (places 2) (start 0) (move a 1 1))\n" 2
  pub named_twice : Refuses15 "(accepted 1)\n(machine 0 (places 3) (start 0) (move a 0 1) (move a 1 2))\n" 2
  pub no_places : Refuses15 "(accepted 1)\n(machine 0 (places 0) (start 0))\n" 2
  pub places_65 : Refuses15 "(accepted 1)\n(machine 0 (places 65) (start 0))\n" 2
  pub other_order : Rewrites "(accepted 1)\n(machine 0 (places 64) (start 63) (move b 63 1) (move a 1 63))\n"
  pub leading_zero : Refuses15 "(accepted 1)\n(machine 0 (places 02) (start 0))\n" 2
  pub two_spaces : Refuses15 "(accepted 1)\n(machine 0 (places 2)  (start 0))\n" 2
  pub net : Refuses15 "(accepted 1)\n(net 0 (marked 0))\n" 2
  pub sixteen : Refuses15 "(accepted 16)\n" 2
  pub long_name : Refuses15 "(accepted 1)\n(machine 0 (places 2) (start 0) (move abcdefghijklmnopq 0 1))\n" 2
  pub names_64 : is_some (refusal_of (read_sheet (with_names 64 "a63"))) ≡ false
  pub names_65 : read_sheet (with_names 64 "a64") ≡ refused (refuse 15 3 0)
  pub too_long : read_sheet (replicate 32769 40) ≡ refused (refuse 15 0 0)
  pub longest : read_sheet (replicate 32768 40) ≡ refused (refuse 15 1 0)
  pub short : rewrite (bytes "(accepted 1)\n(machine 0 (places 1) (start 0))\n") (7 ∷ 7 ∷ []) ≡ record { answer = refused (refuse 13 46 0); left = 7 ∷ 7 ∷ [] }
  pub all : RunsNames y_sheet "ready\nbrake\nhome\nhome\n" (blocked 3 0) (replicate 16 0)
  pub no_names_lem : RunsNames y_sheet "" whole (replicate 16 0)
  pub two : RunsNames y_sheet "brake\nready\n" whole (1 ∷ 1 ∷ replicate 14 0)
  pub again : RunsNames y_sheet "ready\nready\n" (blocked 1 0) (1 ∷ replicate 15 0)
  pub by_machine_1 : RunsNames y_sheet "ready\nhome\n" (blocked 1 1) (1 ∷ replicate 15 0)
  pub beginning : RunsNames y_sheet "ready\nbra\n" (refused_by (refuse 14 1 0)) (replicate 16 0)
  pub first_unended : RunsNames y_sheet "bra" (refused_by (refuse 14 0 0)) (replicate 16 0)
  pub lone_end : RunsNames y_sheet "\n" (refused_by (refuse 14 0 0)) (replicate 16 0)
  pub unknown_then_unended : RunsNames y_sheet "ready\nnobody\nbra" (refused_by (refuse 14 1 0)) (replicate 16 0)
  pub unknown : RunsNames y_sheet "ready\nbrake\nhomes\n" (refused_by (refuse 14 2 0)) (replicate 16 0)
  pub empty_name : RunsNames y_sheet "ready\n\n" (refused_by (refuse 14 1 0)) (replicate 16 0)
  pub not_ended_name : RunsNames y_sheet "ready\nbrake" (refused_by (refuse 14 1 0)) (replicate 16 0)
  pub unknown_before_not_ended : RunsNames y_sheet "x\nbrake" (refused_by (refuse 14 0 0)) (replicate 16 0)
  pub unknown_after_block : RunsNames y_sheet "ready\nready\nnobody\n" (refused_by (refuse 14 2 0)) (replicate 16 0)
  pub byte_13 : RunsNames y_sheet "ready\r\n" (refused_by (refuse 14 0 0)) (replicate 16 0)
  pub from_start : RunsNames start_sheet "a\n" whole (2 ∷ replicate 15 0)
  pub blocked_at_start : RunsNames start_sheet "b\n" (blocked 0 0) (1 ∷ replicate 15 0)

pub boards : Boards
unfolding with_names numbers Refuses15 Rewrites RunsNames exists every first index is_some is_empty flat_map move_from both one_more in_alphabet effective fire fire_all product_step blocker run_from is_digit is_letter is_capital lower
    is_name_byte is_figure is_name digits distinct move_bytes written_move written_line written_count written_sheet count_form move_form head_form line_form lend outcome_of padded ran_answer is_good_move add_name
    add_names names_on is_good_line machine_then machines_from count_then read_sheet rewrite move_on start_places split_names run_names board_run
boards =
    record {
      own = refl;
      empty = refl;
      no_machines_lem = refl;
      seventeen = refl;
      only_count = refl;
      one_missing = refl;
      one_too_many = refl;
      not_ended = refl;
      rubbish_after = refl;
      blank_line_after = refl;
      number_wrong = refl;
      start_high = refl;
      pre_high = refl;
      end_high = refl;
      equal_ends = refl;
      named_twice = refl;
      no_places = refl;
      places_65 = refl;
      other_order = refl;
      leading_zero = refl;
      two_spaces = refl;
      net = refl;
      sixteen = refl;
      long_name = refl;
      names_64 = refl;
      names_65 = refl;
      too_long = refl;
      longest = refl;
      short = refl;
      all = refl;
      no_names_lem = refl;
      two = refl;
      again = refl;
      by_machine_1 = refl;
      beginning = refl;
      first_unended = refl;
      lone_end = refl;
      unknown_then_unended = refl;
      unknown = refl;
      empty_name = refl;
      not_ended_name = refl;
      unknown_before_not_ended = refl;
      unknown_after_block = refl;
      byte_13 = refl;
      from_start = refl;
      blocked_at_start = refl;
    }
