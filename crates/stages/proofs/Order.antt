-- The verdicts on the transition system and on each machine make one, the first that refuses; and the same of rows.
use Prim.Native.Nat.{ℕ}
use native.Mathlib.Omega.{arith}
use mathlib.Core.Path.{◌≡◌, refl, sym, ◌∙◌}
use mathlib.Core.List.{List, []}
use mathlib.Core.Option.{none, or_else}
use lib.ListN.{replicate}
use Rattle.model.specs.Lists.{exists}
use Rattle.model.specs.declared.Refusal as D
use Rattle.model.specs.TransitionSystem.{TransitionSystem, unused_event, system_refusal}
use Rattle.model.specs.Machine.{Decomposition, machines_refusal}
use Rattle.model.proofs.Laws.{or_else_none, map_none}
use Rattle.state_set.proofs.Rows.{empty_row}
use Rattle.rows.specs.declared.Counts.{Counts}
use Rattle.std.specs.Prelude.{Result, Err}
use Rattle.rows.specs.Tables.{verdict_refusal}
use Rattle.rows.specs.Told.{system_of}
use Rattle.rows.specs.Bounded.{Bounded}
use Rattle.rows.proofs.Telling.{told_place}
use Rattle.rows.proofs.Verdicts.{refuses}
use Rattle.transition_system.specs.Sets.{Excitations, system_rows}
use Rattle.regions.specs.Regions.{rows_of, RegionsTold}
use Rattle.stages.specs.Order.{refusal_to10, ChecksRows}

module _ (ts : TransitionSystem) (ms : Decomposition) where
  pub by_system : {r : Result (Unit {0}) D.Refusal} {why : D.Refusal} → verdict_refusal r ≡ system_refusal ts → r ≡ Err why
      → verdict_refusal (Err why) ≡ refusal_to10 ts ms
  unfolding refusal_to10 or_else verdict_refusal
  by_system h e = rw (← h, e)

  pub by_machines : (r : Result (Unit {0}) D.Refusal) → system_refusal ts ≡ none → verdict_refusal r ≡ machines_refusal ts 0 ms → verdict_refusal r ≡ refusal_to10 ts ms
  unfolding refusal_to10 or_else
  by_machines r n h = rw n h

-- past 6 every event has a transition
pub all_used : (ts : TransitionSystem) → system_refusal ts ≡ none → unused_event ts ≡ none
unfolding system_refusal
all_used ts n = map_none _ (unused_event ts) (or_else_none _ _ (or_else_none _ _ n).1).0

-- a fresh row of sets has no transition's state
pub no_excitations : Excitations [] (replicate 256 0)
unfolding exists
no_excitations = record { size = refl; members = λ e s h. empty_row 256 e s }

-- ---- of rows

module _ {c : Counts} {source event target duplicate place : List ℕ} where
  module _ (b : Bounded (rows_of c source event target duplicate place)) where
    pub system_bounded : Bounded (system_rows c source event target)
    system_bounded =
        record {
          states = b.states;
          initial = b.initial;
          events = b.events;
          names = b.names;
          transitions = b.transitions;
          source = b.source;
          event = b.event;
          target = b.target;
          machines = b.machines;
          sizes = b.sizes;
        }

    -- past 7 every event has a transition
    pub rows_used : system_refusal (system_of (system_rows c source event target)) ≡ none → unused_event (system_of (rows_of c source event target duplicate place)) ≡ none
    unfolding system_of
    rows_used passes = all_used _ passes

  -- refused by 4 to 7
  pub rows_by_system : {r : Result (Unit {0}) D.Refusal} {why : D.Refusal} {pre post excited : List ℕ} → verdict_refusal r ≡ system_refusal (system_of (system_rows c source event target)) → r ≡ Err why
      → ChecksRows c source event target duplicate place pre post excited (Err why)
  unfolding system_of
  rows_by_system h e ats lens sizes b = record { refusal = λ ms m. by_system _ ms h e; rows = λ ms m n. refuses _ n }

  module _ (passes : system_refusal (system_of (system_rows c source event target)) ≡ none) where
    module _ {r : Result (Unit {0}) D.Refusal} {pre post excited : List ℕ} (told : RegionsTold c source event target duplicate place r pre post)
        (excitations : Excitations (system_of (system_rows c source event target)).transitions excited) where
      -- refused by 8 to 10, or passed
      pub rows_by_machines : ChecksRows c source event target duplicate place pre post excited r
      unfolding system_of
      rows_by_machines ats lens sizes b =
          record {
            refusal = λ ms m. by_machines _ ms r passes ((told ats lens sizes b).0 ms m);
            rows = λ ms m n.
                record {
                  states = b.states;
                  events = b.events;
                  machines = omega (arith, b.machines, m.counted);
                  moves = (told ats lens sizes b).1 ms m n;
                  places = record { each = λ k i x a l. told_place m (sym ((told ats lens sizes b).0 ms m) ∙ n) b.states k i x a l };
                  excitations = excitations;
                };
          }
