-- What rows of sets tell of transitions.
use Rattle.std.specs.Prelude.{ℕ, ◌+◌, ◌*◌, ◌<◌, ◌≤◌, ◌≡◌, Bool, ◌&&◌, List, [], T, eqb, length}
use Rattle.std.specs.Prelude as Std
use Rattle.std.proofs.Math.Option.{Option}
use Rattle.model.specs.Lists.{exists}
use Rattle.model.specs.Refusal.{Refusal}
use Rattle.model.specs.TransitionSystem.{Transition, TransitionSystem, leads, transition_refusal, unused_event, unreachable_state}
use Rattle.model.proofs.Bounds.{Within}
use Rattle.state_set.specs.declared.StateSet.{StateSet}
use Rattle.state_set.specs.Member.{member, state_found}
use Rattle.state_set.specs.Rows.{member_at}
use Rattle.rows.specs.declared.Counts.{Counts}
use Rattle.rows.specs.declared.Tables.{Tables}
use Rattle.rows.specs.Tables.{tables_in}
use Rattle.rows.specs.Told.{entry, transition_at, first_transitions}

-- set e has the states that a transition of the event e leaves: its excitation set
pub record Excitations (ts : List Transition) (row : List ℕ) : Type 0 where
  pub size : length row ≡ 256
  pub members : (e s : ℕ) → e < 64 → member_at row e s ≡ exists (leads s e) ts

unfoldable pub joins : ℕ → ℕ → Transition → Bool
joins s u t = eqb t.source s && eqb t.target u

-- the row has a set s
abbrev pub Has : List ℕ → ℕ → Type 0
Has row s = s * 4 + 3 < length row

-- each of its sets s has the states to which a transition leads from s
pub record Successors (ts : List Transition) (row : List ℕ) : Type 0 where
  pub members : (s u : ℕ) → Has row s → member_at row s u ≡ exists (joins s u) ts

-- each state in one of its sets has a set there
pub record Closed (row : List ℕ) : Type 0 where
  pub inside : (s u : ℕ) → Has row s → T (member_at row s u) → Has row u

-- `set` has the states to which one of the states `from` leads: those in its set
pub record Image (row : List ℕ) (from set : StateSet) : Type 0 where
  pub into : (s u : ℕ) → T (member from s) → T (member_at row s u) → T (member set u)
  pub only : (u : ℕ) → T (member set u) → (s : ℕ) × T (member from s) × T (member_at row s u)

pub record SetsOf (ts : List Transition) (excited successors : List ℕ) : Type 0 where
  pub excitations : Excitations ts excited
  pub follows : Successors ts successors

-- the rows have a transition k, of one of 64 events, and its source has a set of successors
pub record InRows (source event target successors : List ℕ) (k : ℕ) : Type 0 where
  pub low : k < 1024
  pub sources : k < length source
  pub events : k < length event
  pub targets : k < length target
  pub label : entry event k < 64
  pub from : Has successors (entry source k)

-- the tables of a transition system alone
abbrev pub system_rows : Counts → List ℕ → List ℕ → List ℕ → Tables
system_rows c source event target = tables_in c [] [] source event target [] [] []

-- 4 and 5 of transition k after those before it
abbrev pub next_refusal : List ℕ → List ℕ → List ℕ → ℕ → Option Refusal
next_refusal source event target k = transition_refusal (first_transitions source event target k) (transition_at source event target k)

-- 6: x is the lowest of n events without a transition, if there is one, in any system of which the row has the excitation sets
abbrev pub Unused : List ℕ → ℕ → Std.Option ℕ → Type 0
Unused excited n x =
    (ts : TransitionSystem) → Within ts → ts.states ≤ 256 → ts.events ≡ n → Excitations ts.transitions excited → state_found x ≡ unused_event ts

-- 7: x is the lowest of n states that is not reached from i, if there is one, in any system of which the row has the successors
abbrev pub Unreached : List ℕ → ℕ → ℕ → Std.Option ℕ → Type 0
Unreached successors i n x =
    (ts : TransitionSystem) → Within ts → ts.states ≡ n → ts.initial ≡ i → Successors ts.transitions successors → state_found x ≡ unreachable_state ts
