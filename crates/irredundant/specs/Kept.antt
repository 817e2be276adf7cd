-- The set of kept machines as a number, and how the rows tell whether a machine is redundant.
use Rattle.std.specs.Prelude.{ℕ, suc, ◌+◌, ◌*◌, ◌<◌, ◌≤◌, ◌≡◌, Bool, false, not, cond, ◌&&◌, ◌||◌, List, [], ◌∷◌, Result, Ok, Err, ltb, length, get_or}
use Rattle.std.proofs.Math.Option.{none, some}
use Rattle.model.specs.declared.Refusal as D
use Rattle.model.specs.Lists.{count, is_some, lowest}
use Rattle.model.specs.TransitionSystem.{TransitionSystem}
use Rattle.model.specs.Cases.{tabled}
use Rattle.model.specs.Machine.{Decomposition, cover_refusal, kept_marks}
use Rattle.state_set.specs.Rows.{member_at}
use Rattle.closure.specs.Covers.{on_machine, on_some, meets, common_to, CoverTold, SetsTold}
use Rattle.rows.specs.declared.Counts.{Counts}
use Rattle.irredundant.specs.declared.Kept.{Kept}

-- the set of machines that marks give as a number: bit i is machine i
unfoldable pub set_number : List Bool → ℕ
set_number [] = 0
set_number (k ∷ ks) = cond k 1 0 + 2 * set_number ks

-- what Thin keeps, as a number and a count
pub record Keeps (ts : TransitionSystem) (ms : Decomposition) (r : Kept) : Type 0 where
  pub machines : r.machines ≡ set_number (kept_marks ts ms)
  pub size : r.size ≡ count (λ b. b) (kept_marks ts ms)

-- what Thin answers of machines: the refusal by 11 or 12, or what it keeps
unfoldable pub ThinsTo : TransitionSystem → Decomposition → Result Kept D.Refusal → Type 0
ThinsTo ts ms (Err why) = cover_refusal ts ms ≡ some (tabled why)
ThinsTo ts ms (Ok k) = (cover_refusal ts ms ≡ none) × Keeps ts ms k

-- r is what Thin answers of any machines that the rows tell
pub record Thins (c : Counts) (pre place excited : List ℕ) (r : Result Kept D.Refusal) : Type 0 where
  pub thins : (ts : TransitionSystem) (ms : Decomposition) (post : List ℕ) → CoverTold ts ms pre post place excited → ts.states ≡ c.states
      → ts.events ≡ c.events → length ms ≡ c.machines → ThinsTo ts ms r

-- r is what Thin keeps of any machines that the rows tell, with the places as sets
pub record ThinsBySets (pre sets excited : List ℕ) (machines events : ℕ) (r : Kept) : Type 0 where
  pub keeps : (ts : TransitionSystem) (ms : Decomposition) (post : List ℕ) → SetsTold ts ms pre post sets excited → machines ≡ length ms
      → events ≡ ts.events → Keeps ts ms r

-- no number below n passes the test
unfoldable pub none_below : (ℕ → Bool) → ℕ → Bool
none_below f n = not (is_some (lowest f n))

-- the rows have sets for so many machines and events
pub record Sizes (machines events : ℕ) (sets below : List ℕ) : Type 0 where
  pub sets_size : machines * 256 ≤ length sets
  pub below_size : events * 64 ≤ length below

-- the sets of machine m + 1 are made from those of machine m, and those before are as they were
pub record Extends (sets pre : List ℕ) (m events : ℕ) (old new : List ℕ) : Type 0 where
  pub size : length new ≡ length old
  pub next : (e i : ℕ) → e < events → member_at new (e * 16 + suc m) i ≡ (member_at old (e * 16 + m) i && meets sets pre e m i)
  pub before : (k e i : ℕ) → k < suc m → member_at new (e * 16 + k) i ≡ member_at old (e * 16 + k) i

-- the first set of each event has all states
pub record AllStates (events : ℕ) (row : List ℕ) : Type 0 where
  pub full : (e i : ℕ) → e < events → member_at row (e * 16) i ≡ ltb i 256

-- set e * 16 + k has the states common to the pre-places of event e on the machines before k
pub record Below (sets pre : List ℕ) (machines events : ℕ) (row : List ℕ) : Type 0 where
  pub common : (k e i : ℕ) → k < machines → e < events → member_at row (e * 16 + k) i ≡ common_to sets pre e k i

-- machine m is one of those that have an event and whose pre-places are met
pub record Adds (sets pre : List ℕ) (m events : ℕ) (above : List ℕ) (onAbove : List Bool) (above2 : List ℕ) (onAbove2 : List Bool) : Type 0 where
  pub above_size : length above2 ≡ length above
  pub on_size : length onAbove2 ≡ length onAbove
  pub common : (e i : ℕ) → e < events → member_at above2 e i ≡ (member_at above e i && meets sets pre e m i)
  pub on : (e : ℕ) → e < events → get_or onAbove2 e false ≡ (get_or onAbove e false || on_machine pre e m)

-- event e is on a machine before m or on one after it that is kept, and no state outside its excitation set is common to its pre-places there
unfoldable pub covered_without : List ℕ → List ℕ → List ℕ → List Bool → List ℕ → ℕ → ℕ → Bool
covered_without pre below above onAbove excited m e =
    (get_or onAbove e false || on_some pre e m)
    && none_below (λ i. (member_at below (e * 16 + m) i && member_at above e i) && not (member_at excited e i)) 256

-- machine m is redundant: without it there are others, and they cover every event
abbrev pub redundant : List ℕ → List ℕ → List ℕ → List Bool → List ℕ → ℕ → ℕ → ℕ → Bool
redundant pre below above onAbove excited others m events =
    ltb 0 others && none_below (λ e. not (covered_without pre below above onAbove excited m e)) events
