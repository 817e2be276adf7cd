-- Quotations, from the bytes of each text to what is left in the buffer, computed (`quoted_texts`); rounding and the writing of amounts (`rounded_amounts`). Document 02, slip 6.
use Rattle.std.specs.Prelude.{ℕ, ◌≡◌, refl, pos, negsuc, length, replicate}
use Prim.Native.String.{String, ◌++◌}
use mathlib.Core.List.{List, [], ◌∷◌, flat_map, flatten}
use Rattle.std.proofs.Math.Option.{or_else}
use Rattle.model.specs.Lists.{exists, every, first, index, count, satisfying, is_some, is_empty, numbers, elem, lowest}
use Rattle.model.specs.Refusal.{Refusal, refuse, refused, passed}
use Rattle.model.specs.TransitionSystem.{leads, transition_refusal, transitions_refusal, unused_event, exits, with_target, grown, reached, unreachable_state, system_refusal}
use Rattle.model.specs.Product.{in_alphabet, effective}
use Rattle.model.specs.Machine.{place_in, crosses, move, duplicate_state, unplaced_state, transitions_of, enters, all_or_none, uniform, nonuniform_event, ineffective_event, in_pre, ready, common, excited, open_state, open_event, closure_refusal, machine_refusal, machines_refusal, cover_refusal, select, suffices, try_drop, thin_below, kept_marks}
use Rattle.model.specs.Bytes.{bytes, is_digit, is_letter, is_capital, lower, is_name_byte, is_figure, is_name, digits, numeral, numeral_up_to}
use Rattle.model.specs.Form.{is_machine_line, is_step_line, start_given, states_line, spaced_name, events_line, step_line, spaced_figure, place, machine_line, line_after}
use Rattle.model.specs.Text.{event_number, value_of, distinct, in_limit, is_declared, ended, line_then, lines_from, read}
use Rattle.model.specs.Merging.{place_count}
use Rattle.model.specs.Cents.{rebate, rebated, half_cent, sum, signed_numeral}
use Rattle.model.specs.Quotation.{machine_price, wire_price, credit_price, is_kept, sharers, machine_charge, wire_charge, credit_charge, chosen, machine_charges, wire_charges, credit_charges, charges, written_item, written_charge, total, written_total, written_charges, quotation}
use Rattle.model.specs.Services.{as_far_as7, as_far_as10, as_far_as12, lend, quote, written_refusal}
use Rattle.model.specs.Printed.{printed_by, fitting, printed_quote}
use Rattle.model.specs.Examples.{Y, Y0, Y1, Q, Q2, single}

-- Y with its two machines, and its quotation of 81 bytes
abbrev pub YY : String
YY = Y ++ Y0 ++ Y1

abbrev pub y_quoted : String
y_quoted = "(line machine 0 40028)\n(line machine 1 40028)\n(line wire home 618)\n(total 80674)\n"

-- Y with its names in other cases on the events line than on the steps
abbrev pub y_spelt : String
y_spelt =
    "(states 4)\n(events Ready BRAKE hOmE)\n(step 0 ready 1)\n(step 0 Brake 2)\n(step 1 brake 3)\n(step 2 READY 3)\n(step 3 home 0)\n" ++ Y0 ++ Y1

-- a machine of two places, 16 times
abbrev pub two : String
two = "(machine (0) (1))\n"

abbrev pub four : String
four = two ++ two ++ two ++ two

abbrev pub copies : String
copies = "(states 2)\n(events go)\n(step 0 go 1)\n" ++ four ++ four ++ four ++ four

abbrev pub copies_quoted : String
copies_quoted =
    "(line machine 0 40028)\n(line credit 1 -4535)\n(line credit 2 -4535)\n(line credit 3 -4535)\n(line credit 4 -4535)\n(line credit 5 -4535)\n"
    ++ "(line credit 6 -4535)\n(line credit 7 -4535)\n(line credit 8 -4535)\n(line credit 9 -4535)\n(line credit 10 -4535)\n(line credit 11 -4535)\n"
    ++ "(line credit 12 -4535)\n(line credit 13 -4535)\n(line credit 14 -4535)\n(line credit 15 -4535)\n(total -27997)\n"

-- three events in any order, then home from where all are done; a machine for each of the three
abbrev pub cube : String
cube =
    "(states 8)\n(events a b c home)\n(step 0 a 1)\n(step 2 a 3)\n(step 4 a 5)\n(step 6 a 7)\n(step 0 b 2)\n(step 1 b 3)\n(step 4 b 6)\n(step 5 b 7)\n"
    ++ "(step 0 c 4)\n(step 1 c 5)\n(step 2 c 6)\n(step 3 c 7)\n(step 7 home 0)\n"
    ++ "(machine (0 2 4 6) (1 3 5 7))\n(machine (0 1 4 5) (2 3 6 7))\n(machine (0 1 2 3) (4 5 6 7))\n"

-- with just as many bytes lent as the quotation has
unfoldable pub Quotes : String → String → Type 0
Quotes text q = quote (bytes text) (replicate (length (bytes q)) 0) ≡ record { answer = passed (length (bytes q)); left = bytes q }

-- refused, and what is lent is left as it is
unfoldable pub QuoteRefuses : String → List ℕ → Refusal → Type 0
QuoteRefuses text out r = quote (bytes text) out ≡ record { answer = refused r; left = out }

pub record QuotedTexts : Type 0 where
  -- "for Y it is that one, from two machines and one wire and no credit"
  pub y : Quotes YY y_quoted
  -- "A quotation that doesn't fit gets 13."
  pub y_two_bytes : QuoteRefuses YY (1 ∷ 2 ∷ []) (refuse 13 81 0)
  pub y_one_byte_short : QuoteRefuses YY (replicate 80 7) (refuse 13 81 0)
  pub y_more_lent : quote (bytes YY) (replicate 84 7) ≡ record { answer = passed 81; left = bytes (y_quoted ++ "\u{7}\u{7}\u{7}") }
  pub y_printed : printed_quote (bytes YY) 32768 ≡ bytes y_quoted
  pub y_printed_short : printed_quote (bytes YY) 80 ≡ bytes "(refused 13 81 0)\n"
  -- "the name spelt as on a sheet"
  pub y_spelt_lem : Quotes y_spelt "(line machine 0 40028)\n(line machine 1 40028)\n(line wire hOmE 618)\n(total 80674)\n"
  -- the machine that is dropped costs a credit, and counts in no wire
  pub y_with_copy : Quotes (YY ++ Y0) "(line machine 0 40028)\n(line machine 1 40028)\n(line wire home 618)\n(line credit 2 -4535)\n(total 76139)\n"
  pub q_with_third : Quotes (Q ++ Q2) "(line machine 2 40028)\n(line credit 0 -4535)\n(line credit 1 -4535)\n(total 30958)\n"
  pub below_zero : Quotes copies copies_quoted
  -- on three machines
  pub wire_of_three : Quotes cube "(line machine 0 40028)\n(line machine 1 40028)\n(line machine 2 40028)\n(line wire home 1235)\n(total 121319)\n"
  -- its rebate is 1,445.5
  pub one_place : Quotes single "(line machine 0 39854)\n(total 39854)\n"
  pub three_places : Quotes "(states 3)\n(events a b)\n(step 0 a 1)\n(step 1 b 2)\n(machine (0) (1) (2))\n" "(line machine 0 40202)\n(total 40202)\n"
  pub q_refused : QuoteRefuses Q (7 ∷ []) (refuse 12 0 2)
  pub y_alone_refused : QuoteRefuses (Y ++ Y0) (7 ∷ []) (refuse 11 1 0)
  pub no_text : QuoteRefuses "(states)\n" [] (refuse 1 1 0)

pub quoted_texts : QuotedTexts
unfolding Quotes QuoteRefuses exists every first index count satisfying is_some is_empty numbers elem lowest or_else flatten flat_map leads transition_refusal transitions_refusal unused_event exits with_target grown
    reached unreachable_state system_refusal place_in crosses move in_alphabet effective duplicate_state unplaced_state transitions_of enters all_or_none uniform nonuniform_event ineffective_event in_pre ready
    common excited open_state open_event closure_refusal machine_refusal machines_refusal cover_refusal select suffices try_drop thin_below kept_marks is_digit is_letter is_capital lower is_name_byte is_figure
    is_name digits numeral numeral_up_to is_machine_line is_step_line start_given states_line spaced_name events_line step_line spaced_figure place machine_line line_after event_number value_of distinct in_limit
    is_declared ended line_then lines_from read place_count rebate rebated half_cent sum signed_numeral machine_price wire_price credit_price is_kept sharers machine_charge wire_charge credit_charge chosen
    machine_charges wire_charges credit_charges charges written_item written_charge total written_total written_charges quotation as_far_as7 as_far_as10 as_far_as12 lend quote written_refusal printed_by fitting
    printed_quote
quoted_texts =
    record {
      y = refl;
      y_two_bytes = refl;
      y_one_byte_short = refl;
      y_more_lent = refl;
      y_printed = refl;
      y_printed_short = refl;
      y_spelt_lem = refl;
      y_with_copy = refl;
      q_with_third = refl;
      below_zero = refl;
      wire_of_three = refl;
      one_place = refl;
      three_places = refl;
      q_refused = refl;
      y_alone_refused = refl;
      no_text = refl;
    }

-- 35 in 1,000 of 100 is 3.5, of 300 is 10.5, of 4,700 is 164.5, of 41,300 is 1,445.5, of 14 is 0.49
pub record RoundedAmounts : Type 0 where
  pub half : rebate (pos 100) ≡ pos 4
  pub half_to_odd_below : rebate (negsuc 299) ≡ negsuc 10
  pub less_than_half : rebate (pos 14) ≡ pos 0
  pub less_than_half_below : rebate (negsuc 13) ≡ pos 0
  pub more_than_half : rebate (pos 15) ≡ pos 1
  pub more_than_half_below : rebate (negsuc 14) ≡ negsuc 0
  pub of_nothing : rebate (pos 0) ≡ pos 0
  -- as they are written
  pub zero_written : signed_numeral (pos 0) ≡ bytes "0"
  pub below_written : signed_numeral (negsuc 0) ≡ bytes "-1"
  pub largest_written : signed_numeral (pos 1405664) ≡ bytes "1405664"
  pub total_below_written : signed_numeral (negsuc 27996) ≡ bytes "-27997"

pub rounded_amounts : RoundedAmounts
unfolding rebate rebated half_cent signed_numeral numeral numeral_up_to digits
rounded_amounts =
    record {
      half = refl;
      half_to_odd_below = refl;
      less_than_half = refl;
      less_than_half_below = refl;
      more_than_half = refl;
      more_than_half_below = refl;
      of_nothing = refl;
      zero_written = refl;
      below_written = refl;
      largest_written = refl;
      total_below_written = refl;
    }
