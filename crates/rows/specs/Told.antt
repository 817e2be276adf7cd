-- The tables turned back into the model's value: what they tell of a text. A row of places says neither in which order a place lists its states nor, but
-- for the lowest that is listed twice, which are listed again; all else of the value is told.
use Rattle.std.specs.Prelude.{ℕ, zero, suc, ◌+◌, ◌*◌, ◌<◌, ◌≡◌, cond, eqb, ltb, length, get_or, take, drop}
use mathlib.Core.List.{List, [], ◌∷◌, ◌++◌, flatten}
use Rattle.std.proofs.Math.Option.{Option, none, some}
use Rattle.model.specs.Lists.{At, elem}
use Rattle.model.specs.TransitionSystem.{Transition, TransitionSystem}
use Rattle.model.specs.Machine.{Machine, Decomposition, place_of, duplicate_state}
use Rattle.model.specs.Bytes.{Name}
use Rattle.model.specs.Text.{Input, system, name_at}
use Rattle.rows.specs.declared.Tables.{Tables}

abbrev pub entry : List ℕ → ℕ → ℕ
entry row k = get_or row k 0

-- transition k of three rows
abbrev pub transition_at : List ℕ → List ℕ → List ℕ → ℕ → Transition
transition_at sources events targets k = record { source = entry sources k; event = entry events k; target = entry targets k }

-- the first k of them
unfoldable pub first_transitions : List ℕ → List ℕ → List ℕ → ℕ → List Transition
first_transitions sources events targets zero = []
first_transitions sources events targets (suc k) = first_transitions sources events targets k ++ (transition_at sources events targets k ∷ [])

unfoldable pub system_of : Tables → TransitionSystem
system_of p =
    record {
      states = p.counts.states;
      events = p.counts.events;
      initial = p.counts.initial;
      transitions = first_transitions p.source p.event p.target p.counts.transitions;
    }

-- the name of event e, in the text
unfoldable pub name_of : List ℕ → Tables → ℕ → Name
name_of s p e = take (entry p.name_len e) (drop (entry p.name_at e) s)

-- an entry, unless it is the mark of none
unfoldable pub or_none : ℕ → ℕ → Option ℕ
or_none mark x = cond (eqb x mark) none (some x)

-- a number, unless it is the bound: what a search below the bound answers
unfoldable pub below : ℕ → ℕ → Option ℕ
below bound k = cond (ltb k bound) (some k) none

-- the place of state x in machine k, and the lowest state that machine k lists twice
unfoldable pub place_at : Tables → ℕ → ℕ → Option ℕ
place_at p k x = or_none 255 (entry p.place (k * 256 + x))

unfoldable pub duplicate_at : Tables → ℕ → Option ℕ
duplicate_at p k = or_none 256 (entry p.duplicate k)

pub record MachineTold (ts : TransitionSystem) (p : Tables) (k : ℕ) (m : Machine) : Type 0 where
  pub places : entry p.sizes k ≡ length m.places
  pub duplicate : duplicate_at p k ≡ duplicate_state ts m
  pub place : (x : ℕ) → x < 256 → place_at p k x ≡ cond (elem x (flatten m.places)) (some (place_of m x)) none

pub record MachinesTold (ts : TransitionSystem) (p : Tables) (ms : Decomposition) : Type 0 where
  pub counted : p.counts.machines ≡ length ms
  pub machine : (k : ℕ) (m : Machine) → At ms k m → MachineTold ts p k m

pub record Told (s : List ℕ) (v : Input) (p : Tables) : Type 0 where
  pub tells_system : system_of p ≡ system v
  pub name_place : (e : ℕ) → e < length v.names → entry p.name_at e ≡ name_at s v e
  pub name : (e : ℕ) → e < length v.names → name_of s p e ≡ get_or v.names e []
  pub tells_machines : MachinesTold (system v) p v.machines
