-- The flat answers hide nothing: answers with the same numbers are the same answer.
use Prim.Native.Nat.{ℕ, zero, suc, ◌≤◌, ◌<◌}
use native.Mathlib.Omega.{arith}
use mathlib.Core.Path.{◌≡◌, refl, ap, ap₂, sym, ◌∙◌}
use mathlib.Core.List.{List, [], ◌∷◌}
use lib.ListN.{length, get_or}
use lib.Seq.{ext_get_or}
use Rattle.std.specs.Prelude.{Result, Ok, Err}
use Rattle.model.specs.declared.Refusal as D
use Rattle.model.specs.declared.Refusal.TheVariants as C
use Rattle.model.specs.Cases.{tabled}
use Rattle.model.specs.Refusal.{refuse, refused, passed}
use Rattle.model.specs.Services as Services
use Rattle.model.specs.Services.{blocked, refused_by}
use Rattle.product.specs.declared.Outcome.{Outcome}
use Rattle.product.specs.declared.Outcome.TheVariants as O
use Rattle.product.specs.declared.RunAnswer.{RunAnswer}
use Rattle.product.specs.Answers.{outcome_is, run_answer}
use Rattle.answers.specs.Answers.{answered}
use Rattle.flat.specs.declared.FlatAnswer.{FlatAnswer}
use Rattle.flat.specs.declared.FlatRun.{FlatRun}
use Rattle.flat.specs.declared.FlatOutcome.{FlatOutcome}
use Rattle.flat.specs.Flat.{flat_answer, flat_outcome, with_places, flat_run}

-- No refusal of the code has the number 0: number 0 says that nothing is refused.
pub tabled_numbered : (why : D.Refusal) → 1 ≤ (tabled why).number
unfolding tabled
tabled_numbered (C.Malformed line) = omega arith
tabled_numbered (C.LimitExceeded line) = omega arith
tabled_numbered (C.Undeclared line) = omega arith
tabled_numbered (C.SelfLoop line) = omega arith
tabled_numbered (C.Nondeterministic line earlier) = omega arith
tabled_numbered (C.UnusedEvent event) = omega arith
tabled_numbered (C.Unreachable state) = omega arith
tabled_numbered (C.DuplicateState machine state) = omega arith
tabled_numbered (C.UncoveredState machine state) = omega arith
tabled_numbered (C.NotARegion machine event) = omega arith
tabled_numbered (C.IneffectiveEvent event) = omega arith
tabled_numbered (C.NotExcitationClosed event state) = omega arith
tabled_numbered (C.BufferTooShort needed) = omega arith
tabled_numbered (C.UnknownEvent position) = omega arith
tabled_numbered (C.BadSheet line) = omega arith

-- ---- a call on a lent list

-- the four numbers tell the refusal with its details, or how many entries are written
pub flat_answer_injective : (a b : Result ℕ D.Refusal) → flat_answer (answered a) ≡ flat_answer (answered b) → answered a ≡ answered b
unfolding flat_answer answered
flat_answer_injective (Err x) (Err y) e = ap (λ (t : FlatAnswer). refused (refuse t.number t.detail t.second)) e
flat_answer_injective (Err x) (Ok n) e = absurd (omega (arith, tabled_numbered x, ap (λ (t : FlatAnswer). t.number) e))
flat_answer_injective (Ok m) (Err y) e = absurd (omega (arith, tabled_numbered y, ap (λ (t : FlatAnswer). t.number) e))
flat_answer_injective (Ok m) (Ok n) e = ap (λ (t : FlatAnswer). passed t.size) e

-- ---- a run

-- the six numbers tell the refusal, that the list ran to its end, or how many events ran and which machine blocked the next
pub flat_outcome_injective : (a b : Outcome) → flat_outcome (outcome_is a) ≡ flat_outcome (outcome_is b) → outcome_is a ≡ outcome_is b
unfolding flat_outcome outcome_is
flat_outcome_injective O.Whole O.Whole e = refl
flat_outcome_injective O.Whole (O.Blocked n m) e = absurd (omega (arith, ap (λ (t : FlatOutcome). t.blocked) e))
flat_outcome_injective O.Whole (O.Refused y) e = absurd (omega (arith, tabled_numbered y, ap (λ (t : FlatOutcome). t.number) e))
flat_outcome_injective (O.Blocked n m) O.Whole e = absurd (omega (arith, ap (λ (t : FlatOutcome). t.blocked) e))
flat_outcome_injective (O.Blocked n m) (O.Blocked k j) e = ap (λ (t : FlatOutcome). blocked t.ran t.machine) e
flat_outcome_injective (O.Blocked n m) (O.Refused y) e = absurd (omega (arith, ap (λ (t : FlatOutcome). t.blocked) e))
flat_outcome_injective (O.Refused x) O.Whole e = absurd (omega (arith, tabled_numbered x, ap (λ (t : FlatOutcome). t.number) e))
flat_outcome_injective (O.Refused x) (O.Blocked k j) e = absurd (omega (arith, ap (λ (t : FlatOutcome). t.blocked) e))
flat_outcome_injective (O.Refused x) (O.Refused y) e = ap (λ (t : FlatOutcome). refused_by (refuse t.number t.detail t.second)) e

-- the values at 0 to n - 1: the sixteen places are such a list
firsts : (ℕ → ℕ) → ℕ → List ℕ
firsts f zero = []
firsts f (suc n) = f 0 ∷ firsts (λ k. f (suc k)) n

first_at : (f : ℕ → ℕ) (n k : ℕ) → k < n → get_or (firsts f n) k 0 ≡ f k
unfolding firsts
first_at f zero k h = absurd (omega arith)
first_at f (suc n) zero h = refl
first_at f (suc n) (suc k) h = first_at (λ j. f (suc j)) n k (omega arith)

places_of : FlatRun → List ℕ
places_of t =
    t.place_0 ∷ t.place_1 ∷ t.place_2 ∷ t.place_3 ∷ t.place_4 ∷ t.place_5 ∷ t.place_6 ∷ t.place_7
    ∷ t.place_8 ∷ t.place_9 ∷ t.place_10 ∷ t.place_11 ∷ t.place_12 ∷ t.place_13 ∷ t.place_14 ∷ t.place_15 ∷ []

place_at_lem : (t : FlatOutcome) (qs : List ℕ) (k : ℕ) → k < 16 → get_or (places_of (with_places t qs)) k 0 ≡ get_or qs k 0
unfolding places_of with_places firsts
place_at_lem t qs k h = first_at (λ j. get_or qs j 0) 16 k h

module _ (a b : RunAnswer) (e : flat_run (run_answer a) ≡ flat_run (run_answer b)) where
  -- what run answers tells the outcome
  pub flat_run_outcome : outcome_is a.outcome ≡ outcome_is b.outcome
  unfolding flat_run with_places run_answer
  flat_run_outcome =
      flat_outcome_injective a.outcome b.outcome
      (ap (λ (t : FlatRun). record { number = t.number; detail = t.detail; second = t.second; blocked = t.blocked; ran = t.ran; machine = t.machine }) e)

  -- and the place of each machine number
  pub flat_run_place : (k : ℕ) → k < 16 → get_or a.places k 0 ≡ get_or b.places k 0
  unfolding flat_run run_answer
  flat_run_place k h = sym (place_at_lem _ a.places k h) ∙ ap (λ (t : FlatRun). get_or (places_of t) k 0) e ∙ place_at_lem _ b.places k h

  -- so it tells all, since the code has sixteen places
  pub flat_run_injective : length a.places ≡ 16 → length b.places ≡ 16 → run_answer a ≡ run_answer b
  unfolding run_answer
  flat_run_injective h k =
      ap₂ (λ (o : Services.Outcome) (qs : List ℕ). record { outcome = o; places = qs }) flat_run_outcome
      (ext_get_or 0 a.places b.places (h ∙ sym k) (λ i l. flat_run_place i (omega (arith, l, h))))
