-- How the machines stand, step and run, by the rows of their moves.
use Rattle.std.specs.Prelude.{ℕ, Some, None, unwrap_or, ◌+◌, ◌*◌, ◌≤◌, ◌<◌, ◌≡◌, Bool, not, ◌&&◌, List, T, eqb, ltb, length, take}
use Rattle.std.proofs.Math.Option.{none, some}
use Rattle.model.specs.Lists.{numbers}
use Rattle.model.specs.Refusal.{passed}
use Rattle.model.specs.Product.{effective, fire_all, blocker, run_from}
use Rattle.model.specs.Services as Services
use Rattle.rows.specs.Told.{entry}
use Rattle.regions.specs.Moves.{move_at, MoveRows}
use Rattle.product.specs.declared.Stepped.{Stepped}

-- each of the first machines stands in its place, and there is 0 for machine numbers not in use
pub record Standing (place : ℕ → ℕ) (machines : ℕ) (row : List ℕ) : Type 0 where
  pub size : length row ≡ 16
  pub stands : (k : ℕ) → k < machines → entry row k ≡ place k
  pub unused : (k : ℕ) → machines ≤ k → entry row k ≡ 0

-- each of the first machines has the bound of places, and there is 0 for machine numbers not in use
abbrev pub PlaceBounds : ℕ → List ℕ → Type 0
PlaceBounds = Standing (λ _. 64)

-- machine k has event e, and stands elsewhere than in its pre-place
unfoldable pub blocks_at : List ℕ → List ℕ → ℕ → ℕ → Bool
blocks_at pre places e k = ltb (entry pre (e * 16 + k)) 64 && not (eqb (entry places k) (entry pre (e * 16 + k)))

-- Event e from these places, on the machines whose moves the rows tell: the lowest that blocks it, and all stay; or none, and they have moved
pub record Steps (pre post : List ℕ) (machines : ℕ) (places : List ℕ) (e : ℕ) (r : Stepped) : Type 0 where
  pub among : (m : ℕ) → r.blocker ≡ Some m → m < machines
  pub blocker : unwrap_or r.blocker machines ≡ blocker (move_at pre post) (numbers machines) (take machines places) e
  pub halts : (m : ℕ) → r.blocker ≡ Some m → (fire_all (move_at pre post) e (numbers machines) (take machines places) ≡ none) × (r.places ≡ places)
  pub goes : r.blocker ≡ None → fire_all (move_at pre post) e (numbers machines) (take machines places) ≡ some (take machines r.places)
  pub size : length r.places ≡ 16
  pub others : (k : ℕ) → machines ≤ k → entry r.places k ≡ entry places k

-- there is 0 for machine numbers not in use
abbrev pub IsPadded : ℕ → List ℕ → Type 0
IsPadded machines row = row ≡ Services.padded (take machines row)

-- the event is on one of the machines
abbrev pub IsOn : List ℕ → List ℕ → ℕ → ℕ → Type 0
IsOn pre post machines e = T (effective (move_at pre post) (numbers machines) e)

-- every event of the list has an entry in the rows and is on a machine
abbrev pub EventsOn : List ℕ → List ℕ → ℕ → List ℕ → Type 0
EventsOn pre post machines es = (i : ℕ) → i < length es → (entry es i < 64) × IsOn pre post machines (entry es i)

-- what Run answers of such events, from the places in this row
abbrev pub RunsFrom : List ℕ → List ℕ → ℕ → List ℕ → List ℕ → Services.RunAnswer → Type 0
RunsFrom pre post machines row es a = a ≡ Services.ran_answer (passed (run_from (move_at pre post) (numbers machines) (take machines row) es))

-- so many events are declared, and each is on one of the machines, which stand in the places of this row
pub record Runs (pre post : List ℕ) (machines declared : ℕ) (row : List ℕ) : Type 0 where
  pub few : machines ≤ 16
  pub rows : MoveRows pre post
  pub known : declared ≤ 64
  pub on : (e : ℕ) → e < declared → IsOn pre post machines e
  pub standing : IsPadded machines row

-- what Run answers then of any events
abbrev pub RunsEvents : List ℕ → List ℕ → ℕ → ℕ → List ℕ → List ℕ → Services.RunAnswer → Type 0
RunsEvents pre post machines declared row es a =
    a ≡ Services.ran_answer (Services.run_events (move_at pre post) declared (numbers machines) (take machines row) es)
