-- Each answer as numbers, those that are not in use 0. A refusal's number is never 0, so no answer looks like another (proofs/Injective).
use Rattle.std.specs.Prelude.{ℕ, List, get_or}
use Rattle.model.specs.Refusal.{Checked, refused, passed}
use Rattle.model.specs.Services.{Outcome, whole, blocked, refused_by, RunAnswer}
use Rattle.flat.specs.declared.FlatAnswer.{FlatAnswer}
use Rattle.flat.specs.declared.FlatRun.{FlatRun}
use Rattle.flat.specs.declared.FlatOutcome.{FlatOutcome}

unfoldable pub flat_answer : Checked ℕ → FlatAnswer
flat_answer (refused r) = record { number = r.number; detail = r.detail; second = r.second; size = 0 }
flat_answer (passed n) = record { number = 0; detail = 0; second = 0; size = n }

unfoldable pub flat_outcome : Outcome → FlatOutcome
flat_outcome whole = record { number = 0; detail = 0; second = 0; blocked = 0; ran = 0; machine = 0 }
flat_outcome (blocked ran machine) = record { number = 0; detail = 0; second = 0; blocked = 1; ran = ran; machine = machine }
flat_outcome (refused_by r) = record { number = r.number; detail = r.detail; second = r.second; blocked = 0; ran = 0; machine = 0 }

unfoldable pub with_places : FlatOutcome → List ℕ → FlatRun
with_places t qs =
    record {
      number = t.number;
      detail = t.detail;
      second = t.second;
      blocked = t.blocked;
      ran = t.ran;
      machine = t.machine;
      place_0 = get_or qs 0 0;
      place_1 = get_or qs 1 0;
      place_2 = get_or qs 2 0;
      place_3 = get_or qs 3 0;
      place_4 = get_or qs 4 0;
      place_5 = get_or qs 5 0;
      place_6 = get_or qs 6 0;
      place_7 = get_or qs 7 0;
      place_8 = get_or qs 8 0;
      place_9 = get_or qs 9 0;
      place_10 = get_or qs 10 0;
      place_11 = get_or qs 11 0;
      place_12 = get_or qs 12 0;
      place_13 = get_or qs 13 0;
      place_14 = get_or qs 14 0;
      place_15 = get_or qs 15 0;
    }

unfoldable pub flat_run : RunAnswer → FlatRun
flat_run r = with_places (flat_outcome r.outcome) r.places
