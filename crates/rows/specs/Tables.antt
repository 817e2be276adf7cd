-- The counts and rows that hold what a text gives, and the refusal that a verdict has.
use Rattle.std.specs.Prelude.{ℕ, ◌≡◌, Result, Ok, Err, length, replicate}
use mathlib.Core.List.{List, map, flat_map}
use Rattle.std.proofs.Math.Option.{Option, none, some}
use Rattle.model.specs.declared.Refusal as D
use Rattle.model.specs.Refusal.{Refusal}
use Rattle.model.specs.Cases.{tabled}
use Rattle.model.specs.TransitionSystem.{Transition}
use Rattle.model.specs.Machine.{Machine, duplicate_state}
use Rattle.model.specs.Text.{Input, system, name_at}
use Rattle.rows.specs.Rows.{row, tabulate, place_row, or_no_state}
use Rattle.rows.specs.declared.Counts.{Counts}
use Rattle.rows.specs.declared.Tables.{Tables}
use Rattle.rows.specs.declared.Moves.{Moves}

-- the refusal, with its number and details in the table, that a check answers
unfoldable pub verdict_refusal : Result (Unit {0}) D.Refusal → Option Refusal
verdict_refusal (Err why) = some (tabled why)
verdict_refusal (Ok _) = none

-- how many of each a value has
abbrev pub counts_of : Input → Counts
counts_of v =
    record {
      states = v.states;
      initial = v.initial;
      events = length v.names;
      transitions = length v.transitions;
      machines = length v.machines;
    }

-- Each row has its values from the front: of each event the place and the length of its name, of each transition its numbers, of each machine how many
-- places it has, the lowest state that it lists twice, and the place of each state. An entry that is not in use is 0, in `duplicate` 256 (no state), in
-- `place` 255 (unplaced).
unfoldable pub tables_of : List ℕ → Input → Tables
tables_of s v =
    record {
      counts = counts_of v;
      name_at = row 64 0 (tabulate (name_at s v) (length v.names));
      name_len = row 64 0 (map length v.names);
      source = row 1024 0 (map (λ (t : Transition). t.source) v.transitions);
      event = row 1024 0 (map (λ (t : Transition). t.event) v.transitions);
      target = row 1024 0 (map (λ (t : Transition). t.target) v.transitions);
      sizes = row 16 0 (map (λ (m : Machine). length m.places) v.machines);
      duplicate = row 16 256 (map (λ (m : Machine). or_no_state (duplicate_state (system v) m)) v.machines);
      place = row 4096 255 (flat_map (λ (m : Machine). place_row m.places) v.machines);
    }

-- counts and rows as one value
abbrev pub tables_in : Counts → List ℕ → List ℕ → List ℕ → List ℕ → List ℕ → List ℕ → List ℕ → List ℕ → Tables
tables_in c ats lens sources events targets sizes duplicates places =
    record {
      counts = c;
      name_at = ats;
      name_len = lens;
      source = sources;
      event = events;
      target = targets;
      sizes = sizes;
      duplicate = duplicates;
      place = places;
    }

unfoldable pub no_counts : Counts
no_counts = record { states = 0; initial = 0; events = 0; transitions = 0; machines = 0 }

-- each entry is that of one that is not in use
pub record FreshRows (ats lens sources events targets sizes duplicates places : List ℕ) : Type 0 where
  pub fresh_name_at : ats ≡ replicate 64 0
  pub fresh_name_len : lens ≡ replicate 64 0
  pub fresh_source : sources ≡ replicate 1024 0
  pub fresh_event : events ≡ replicate 1024 0
  pub fresh_target : targets ≡ replicate 1024 0
  pub fresh_sizes : sizes ≡ replicate 16 0
  pub fresh_duplicate : duplicates ≡ replicate 16 256
  pub fresh_place : places ≡ replicate 4096 255

-- no text is read into the tables yet
pub record FreshTables (p : Tables) : Type 0 where
  pub counts : p.counts ≡ no_counts
  pub rows : FreshRows p.name_at p.name_len p.source p.event p.target p.sizes p.duplicate p.place

-- no event is on a machine
pub record NoMoves (m : Moves) : Type 0 where
  pub pre : m.pre ≡ replicate 1024 255
  pub post : m.post ≡ replicate 1024 0
