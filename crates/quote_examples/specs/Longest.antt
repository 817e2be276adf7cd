-- A quotation as long as any (model, Quoted: `longest`): 16 machines that are all kept, and 64 events, each on all of them and with a name of 16 bytes.
-- What is computed here is of the value; proofs/Longest has the rest.
use Rattle.std.specs.Prelude.{ℕ, ◌+◌, ◌-◌, ◌/◌, ◌%◌, ◌≡◌, refl, true, not, cond, ◌&&◌, eqb, ltb, length, replicate, drop}
use Rattle.std.proofs.Common.{ap, ◌∙◌}
use mathlib.Core.List.{List, [], ◌∷◌, map, flat_map, flatten}
use Rattle.std.proofs.Math.Option.{none, or_else}
use Rattle.model.specs.Lists.{exists, every, first, index, count, satisfying, is_some, is_empty, numbers, elem, lowest}
use Rattle.model.specs.Refusal.{refuse, refused, passed}
use Rattle.model.specs.TransitionSystem.{Transition, leads, transition_refusal, transitions_refusal, unused_event, exits, with_target, grown, reached, unreachable_state, system_refusal}
use Rattle.model.specs.Product.{in_alphabet, effective}
use Rattle.model.specs.Machine.{Machine, place_in, crosses, move, duplicate_state, unplaced_state, transitions_of, enters, all_or_none, uniform, nonuniform_event, ineffective_event, in_pre, ready, common, excited, open_state, open_event, closure_refusal, machine_refusal, machines_refusal, cover_refusal, select, suffices, try_drop, thin_below, kept_marks}
use Rattle.model.specs.Bytes.{bytes, digits, numeral, numeral_up_to, Name}
use Rattle.model.specs.Text.{Input, system}
use Rattle.model.specs.Merging.{place_count}
use Rattle.model.specs.Cents.{rebate, rebated, half_cent, sum, signed_numeral}
use Rattle.model.specs.Quotation.{machine_price, wire_price, credit_price, is_kept, sharers, machine_charge, wire_charge, credit_charge, chosen, machine_charges, wire_charges, credit_charges, charges, written_item, written_charge, total, written_total, written_charges, quotation}
use Rattle.model.specs.Services.{as_far_as12, quote}

-- aa-is-of-sixteen to hh-is-of-sixteen
abbrev pub name_of : ℕ → Name
name_of e = (97 + e / 8) ∷ (97 + e % 8) ∷ bytes "-is-of-sixteen"

-- events 0 to 15 lead to state 0 from 2 to 17, events 16 to 31 back, the others from 0 to 1
abbrev pub step_of : ℕ → Transition
step_of e = cond (ltb e 16) (record { source = e + 2; event = e; target = 0 }) (record { source = 0; event = e; target = cond (ltb e 32) (e - 14) 1 })

-- machine k tells 0 and k + 2 from the others, which are one place: only it blocks event k in 1
abbrev pub machine_of : ℕ → Machine
machine_of k = record { places = (0 ∷ []) ∷ ((k + 2) ∷ []) ∷ satisfying (λ s. not (eqb s 0) && not (eqb s (k + 2))) (numbers 18) ∷ [] }

abbrev pub longest : Input
longest = record { states = 18; initial = 0; names = map name_of (numbers 64); transitions = map step_of (numbers 64); machines = map machine_of (numbers 16) }

-- of its text
pub record LongestQuoted (text : List ℕ) : Type 0 where
  pub bytes_of_text : length text ≡ 3877
  pub passes : as_far_as12 text ≡ passed longest
  pub just_fits : (quote text (replicate 2566 7)).answer ≡ passed 2566
  pub one_byte_short : quote text (replicate 2565 7) ≡ record { answer = refused (refuse 13 2566 0); left = replicate 2565 7 }

pub system_clear : system_refusal (system longest) ≡ none
unfolding exists every first count elem lowest satisfying numbers or_else leads transition_refusal transitions_refusal unused_event exits with_target grown reached unreachable_state system_refusal
system_clear = refl

pub machines_clear : machines_refusal (system longest) 0 longest.machines ≡ none
unfolding exists every first index count elem lowest satisfying numbers or_else flatten exits place_in duplicate_state unplaced_state transitions_of enters all_or_none uniform nonuniform_event machine_refusal machines_refusal
machines_clear = refl

pub covered : cover_refusal (system longest) longest.machines ≡ none
unfolding exists every first index elem lowest satisfying numbers or_else is_some leads place_in crosses move in_alphabet effective ineffective_event in_pre ready common excited open_state open_event closure_refusal cover_refusal
covered = refl

pub all_kept : kept_marks (system longest) longest.machines ≡ replicate 16 true
unfolding exists every first index satisfying is_some is_empty numbers elem lowest or_else flatten leads place_in crosses move in_alphabet effective ineffective_event in_pre ready common excited open_state open_event closure_refusal cover_refusal
    select suffices try_drop thin_below kept_marks
all_kept = refl

pub last_lines : drop 2516 (quotation longest) ≡ bytes "(line wire hh-is-of-sixteen 9264)\n(total 1236128)\n"
unfolding count exists first index satisfying is_some numbers elem flat_map place_in crosses move in_alphabet digits numeral numeral_up_to place_count rebate rebated half_cent sum signed_numeral machine_price wire_price credit_price is_kept sharers select machine_charge wire_charge
    credit_charge chosen machine_charges wire_charges credit_charges charges written_item written_charge total written_total written_charges quotation
last_lines = ap (λ ks. drop 2516 (written_charges longest.names (charges (system longest) longest.machines ks))) all_kept ∙ refl

pub size : length (quotation longest) ≡ 2566
unfolding count exists first index satisfying is_some numbers elem flat_map place_in crosses move in_alphabet digits numeral numeral_up_to place_count rebate rebated half_cent sum signed_numeral machine_price wire_price credit_price is_kept sharers select machine_charge wire_charge
    credit_charge chosen machine_charges wire_charges credit_charges charges written_item written_charge total written_total written_charges quotation
size = ap (λ ks. length (written_charges longest.names (charges (system longest) longest.machines ks))) all_kept ∙ refl
