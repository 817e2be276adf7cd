-- Steps in the model's words, by what the code finds out on its way: what 1 to 7 say of the text, and whether the transitions fit.
use Prim.Native.Nat.{ℕ, ◌*◌, ◌<◌, ◌≤◌}
use native.Mathlib.Omega.{arith}
use mathlib.Core.Path.{◌≡◌, ◌∙◌}
use mathlib.Core.List.{List, map}
use lib.ListN.{length}
use Rattle.model.specs.declared.Refusal as D
use Rattle.model.specs.declared.Refusal.TheVariants.{BufferTooShort}
use Rattle.model.specs.Cases.{tabled, recorded}
use Rattle.model.specs.Refusal.{refused, passed, refusal_of}
use Rattle.model.specs.TransitionSystem.{Transition}
use Rattle.model.specs.Services.{as_far_as7, lend, steps}
use Rattle.std.specs.Prelude.{Result, Ok, Err}
use Rattle.rows.specs.declared.Tables.{Tables}
use Rattle.rows.specs.Tables.{verdict_refusal}
use Rattle.rows.specs.Told.{first_transitions}
use Rattle.rows.proofs.Telling.{told_transitions}
use Rattle.listing.specs.Records.{first_records}
use Rattle.answers.specs.Answers.{answered}
use Rattle.stages.specs.Stages.{Held}
use Rattle.steps_service.specs.Listing.{written_by, Lists}
use Rattle.answers.proofs.Lending.{lent_all, lent_none}
use Rattle.rows.proofs.Verdicts.{refused_as}
use Rattle.stages.proofs.Stages.{counted}

-- refused by 1 to 7
pub lists_refusal : {s : List ℕ} {room : ℕ} {numbers : List ℕ} {r : Result (Unit {0}) D.Refusal} {why : D.Refusal} → verdict_refusal r ≡ refusal_of (as_far_as7 s)
    → r ≡ Err why → Lists s room numbers (Err why)
unfolding answered written_by first_records steps lend
lists_refusal {s} {why = why} h e =
    let q : as_far_as7 s ≡ refused (tabled why) = refused_as h e in
    record { answer = λ out l. rw q; left = λ out l. rw q; fits = omega arith; inside = omega arith }

-- a text past 7, which gives n transitions
module _
    {s : List ℕ} (xs : List Transition) (lends : (out : List Transition) → steps s out ≡ lend (passed xs) out)
    {n : ℕ} (counted : n ≡ length xs) where
  -- with room for fewer
  too_few : {room : ℕ} {numbers : List ℕ} → room < n → Lists s room numbers (Err (BufferTooShort n))
  unfolding answered tabled written_by first_records
  too_few {room} l =
      let short : (out : List Transition) → length out ≡ room → length out < length xs = λ out e. omega arith in
      record {
        answer = λ out e. rw (lends out, lent_none xs out (short out e), counted);
        left = λ out e. rw (lends out, lent_none xs out (short out e));
        fits = omega arith;
        inside = omega arith;
      }

  -- with room for all
  fitting : {room : ℕ} {numbers : List ℕ} → n ≤ room → 3 * n ≤ length numbers → map recorded (first_records numbers n) ≡ xs
      → Lists s room numbers (Ok n)
  unfolding answered written_by
  fitting {room} l i w =
      let enough : (out : List Transition) → length out ≡ room → length xs ≤ length out = λ out e. omega arith in
      record {
        answer = λ out e. rw (lends out, lent_all xs out (enough out e), counted);
        left = λ out e. rw (lends out, lent_all xs out (enough out e), w, counted);
        fits = l;
        inside = i;
      }

module _ {s : List ℕ} {p : Tables} (h : Held (as_far_as7 s) s p) where
  -- Steps lends them
  lends : (out : List Transition) → steps s out ≡ lend (passed h.value.transitions) out
  unfolding steps
  lends out = rw h.passes

  -- refused by 13
  pub lists_too_few : {room : ℕ} {numbers : List ℕ} → room < p.counts.transitions → Lists s room numbers (Err (BufferTooShort p.counts.transitions))
  lists_too_few l = too_few _ lends (counted h) l

  -- the transitions fit
  pub lists_all : {room : ℕ} {numbers : List ℕ} → p.counts.transitions ≤ room → 3 * p.counts.transitions ≤ length numbers
      → map recorded (first_records numbers p.counts.transitions) ≡ first_transitions p.source p.event p.target p.counts.transitions
      → Lists s room numbers (Ok p.counts.transitions)
  lists_all l i w = fitting _ lends (counted h) l i (w ∙ told_transitions h.told)
