-- The places of all machines as sets, and what the rows say of an event on all machines.
use Rattle.std.specs.Prelude.{ℕ, zero, suc, ◌+◌, ◌*◌, ◌<◌, ◌≤◌, ◌≡◌, Bool, false, not, ◌&&◌, ◌||◌, List, eqb, ltb, length, Result}
use Rattle.std.proofs.Math.Option.{Option, none, map, or_else}
use Rattle.model.specs.Lists.{At, lowest}
use Rattle.model.specs.declared.Refusal as D
use Rattle.model.specs.Refusal.{Refusal, refuse}
use Rattle.model.specs.TransitionSystem.{TransitionSystem}
use Rattle.model.specs.Machine.{Machine, Decomposition, place_of, cover_refusal}
use Rattle.state_set.specs.Rows.{member_at}
use Rattle.rows.specs.declared.Counts.{Counts}
use Rattle.rows.specs.Tables.{verdict_refusal}
use Rattle.rows.specs.Told.{entry}
use Rattle.transition_system.specs.Sets.{Excitations}
use Rattle.regions.specs.Moves.{MovesTold}

-- set k * 64 + q has the states, of n, that machine k has in place q, for the first machines; the other sets are empty
pub record PlaceSets (place : List ℕ) (n words machines : ℕ) (sets : List ℕ) : Type 0 where
  pub size : length sets ≡ words
  pub members : (k q i : ℕ) → k < machines → q < 64 → member_at sets (k * 64 + q) i ≡ (ltb i n && eqb (entry place (k * 256 + i)) q)
  pub others : (j i : ℕ) → machines * 64 ≤ j → member_at sets j i ≡ false

-- what 1 to 3 leave of the counts that 11 and 12 go over
pub record CountsBounded (c : Counts) : Type 0 where
  pub states : c.states ≤ 256
  pub events : c.events ≤ 64
  pub machines : c.machines ≤ 16

-- event e is on machine k
unfoldable pub on_machine : List ℕ → ℕ → ℕ → Bool
on_machine pre e k = ltb (entry pre (e * 16 + k)) 64

-- event e is on one of the first machines
unfoldable pub on_some : List ℕ → ℕ → ℕ → Bool
on_some pre e zero = false
on_some pre e (suc k) = on_some pre e k || on_machine pre e k

-- state i is in the pre-place of event e on machine k, where there is one
unfoldable pub meets : List ℕ → List ℕ → ℕ → ℕ → ℕ → Bool
meets sets pre e k i = not (on_machine pre e k) || member_at sets (k * 64 + entry pre (e * 16 + k)) i

-- state i is common to the pre-places of event e on the first machines
unfoldable pub common_to : List ℕ → List ℕ → ℕ → ℕ → ℕ → Bool
common_to sets pre e zero i = ltb i 256
common_to sets pre e (suc k) i = common_to sets pre e k i && meets sets pre e k i

-- the lowest state common to the pre-places of event e and outside its excitation set
unfoldable pub open_in : List ℕ → List ℕ → List ℕ → ℕ → ℕ → Option ℕ
open_in sets pre excited machines e = lowest (λ i. common_to sets pre e machines i && not (member_at excited e i)) 256

-- 12 by a search for the open state of each event: the lowest event that has one, and this state
unfoldable pub open_refusal : (ℕ → Option ℕ) → ℕ → Option Refusal
open_refusal lowest_open zero = none
open_refusal lowest_open (suc n) = or_else (open_refusal lowest_open n) (map (λ s. refuse 12 n s) (lowest_open n))

-- the rows tell the moves of the machines and the excitation sets, and their places in one of the two forms below
pub record MachinesHeld (ts : TransitionSystem) (ms : Decomposition) (pre post excited : List ℕ) (Places : Type 0) : Type 0 where
  pub states : ts.states ≤ 256
  pub events : ts.events ≤ 64
  pub machines : length ms ≤ 16
  pub moves : MovesTold ts ms pre post
  pub places : Places
  pub excitations : Excitations ts.transitions excited

-- the place of each state, in a row
pub record InRow (ts : TransitionSystem) (ms : Decomposition) (place : List ℕ) : Type 0 where
  pub each : (k i : ℕ) (m : Machine) → At ms k m → i < ts.states → entry place (k * 256 + i) ≡ place_of m i

-- the states of each place, as sets
pub record InSets (ts : TransitionSystem) (ms : Decomposition) (sets : List ℕ) : Type 0 where
  pub each : (k q i : ℕ) (m : Machine) → At ms k m → q < 64 → member_at sets (k * 64 + q) i ≡ (ltb i ts.states && eqb (place_of m i) q)

-- all that 11 and 12 ask for
abbrev pub CoverTold : TransitionSystem → Decomposition → List ℕ → List ℕ → List ℕ → List ℕ → Type 0
CoverTold ts ms pre post place excited = MachinesHeld ts ms pre post excited (InRow ts ms place)

-- the same with the places as sets
abbrev pub SetsTold : TransitionSystem → Decomposition → List ℕ → List ℕ → List ℕ → List ℕ → Type 0
SetsTold ts ms pre post sets excited = MachinesHeld ts ms pre post excited (InSets ts ms sets)

-- the verdict is that of 11 and 12 for any machines of which the rows tell
pub record CoverJudged (c : Counts) (pre place excited : List ℕ) (r : Result (Unit {0}) D.Refusal) : Type 0 where
  pub judges : (ts : TransitionSystem) (ms : Decomposition) (post : List ℕ) → CoverTold ts ms pre post place excited → ts.states ≡ c.states → ts.events ≡ c.events
      → length ms ≡ c.machines → verdict_refusal r ≡ cover_refusal ts ms
