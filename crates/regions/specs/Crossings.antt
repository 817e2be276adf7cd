-- How transitions lead through a machine, what the scan for 10 answers, and the moves of events whose transitions all lead like the first.
use Rattle.std.specs.Prelude.{ℕ, Option, Some, None, ◌+◌, ◌*◌, ◌<◌, ◌≤◌, ◌≡◌, Bool, cond, ◌&&◌, List, eqb}
use Rattle.model.specs.TransitionSystem.{TransitionSystem}
use Rattle.model.specs.Machine.{Machine, place_of, nonuniform_event}
use Rattle.model.specs.Machine as M
use Rattle.model.proofs.Bounds.{Within}
use Rattle.model.proofs.Places.{Placed}
use Rattle.rows.specs.declared.Counts.{Counts}
use Rattle.rows.specs.Told.{entry, first_transitions, below}
use Rattle.regions.specs.declared.crossings.Crossing.{Crossing}
use Rattle.regions.specs.Indexed.{Indexed}
use Rattle.regions.specs.Moves.{move_at, MoveRows}

-- transition k through machine m, by the rows
unfoldable pub crossing_at : List ℕ → List ℕ → List ℕ → ℕ → ℕ → Crossing
crossing_at source target place m k =
    record { pre = entry place (m * 256 + entry source k); post = entry place (m * 256 + entry target k) }

-- both stay in their place, or both lead from one place to the same other place
unfoldable pub agreeing : Crossing → Crossing → Bool
agreeing a b = cond (eqb a.pre a.post) (eqb b.pre b.post) (eqb a.pre b.pre && eqb a.post b.post)

-- the pre-place in the rows of moves: 255 if the event stays
unfoldable pub pre_mark : Crossing → ℕ
pre_mark a = cond (eqb a.pre a.post) 255 a.pre

-- the rows give the transition system and its machine k, past 8 and 9
pub record Scannable (ts : TransitionSystem) (m : Machine) (k : ℕ) (source event target place : List ℕ) (n : ℕ) : Type 0 where
  pub within : Within ts
  pub transitions : ts.transitions ≡ first_transitions source event target n
  pub placed : Placed ts m
  pub told : (x : ℕ) → x < ts.states → entry place (k * 256 + x) ≡ place_of m x
  pub low : (x : ℕ) → x < ts.states → place_of m x < 64

-- what the scan of machine k answers, and leaves in the rows of moves
pub record Scanned (ts : TransitionSystem) (m : Machine) (k : ℕ) (pre post : List ℕ) (r : ℕ) : Type 0 where
  pub most : r ≤ ts.events
  pub event : below ts.events r ≡ nonuniform_event ts m
  pub moves : (e : ℕ) → e < r → move_at pre post k e ≡ M.move ts m e

-- whatever row of events the chains are made from
abbrev pub ScannedAlong : Counts → List ℕ → List ℕ → List ℕ → List ℕ → List ℕ → ℕ → List ℕ → List ℕ → ℕ → Type 0
ScannedAlong c source target place first next k pre post r =
    (event : List ℕ) (ts : TransitionSystem) (m : Machine) → Indexed event c.transitions first next → Scannable ts m k source event target place c.transitions
    → c.events ≡ ts.events → Scanned ts m k pre post r

-- of the first event that is not level, if there is one
abbrev pub ScannedTo : Counts → List ℕ → List ℕ → List ℕ → List ℕ → List ℕ → ℕ → List ℕ → List ℕ → Option ℕ → Type 0
ScannedTo c source target place first next k pre post None = ScannedAlong c source target place first next k pre post c.events
ScannedTo c source target place first next k pre post (Some e) = (e < c.events) × ScannedAlong c source target place first next k pre post e

-- the moves on the machines before k are as they were
pub record EarlierKept (k : ℕ) (pre post pre2 post2 : List ℕ) : Type 0 where
  pub rows : MoveRows pre2 post2
  pub same : (j e : ℕ) → j < k → e < 64 → move_at pre2 post2 j e ≡ move_at pre post j e

-- the moves on all machines
pub record MovesPut (source target place first : List ℕ) (events machines : ℕ) (pre post : List ℕ) : Type 0 where
  pub rows : MoveRows pre post
  pub pres : (m : ℕ) → m < machines → (e : ℕ) → e < events → entry pre (e * 16 + m) ≡ pre_mark (crossing_at source target place m (entry first e))
  pub posts : (m : ℕ) → m < machines → (e : ℕ) → e < events → entry post (e * 16 + m) ≡ (crossing_at source target place m (entry first e)).post
