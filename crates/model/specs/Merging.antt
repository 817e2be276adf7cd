-- Merging places of a machine. Document 02, slip 4, "Fewer places on a board".
-- Believed: `with_machines`, by which the merged split's sheet has the plan's names. Held by merges_hold: one merge (`places`, `in_machine`, `others`, `as_many`), the pass
-- (`one_result`, `result`).
use Rattle.std.specs.Prelude.{ℕ, zero, suc, Bool, not, ◌&&◌, List, [], ◌∷◌, ◌++◌, ltb, length, get_or, set}
use Rattle.std.proofs.Math.Option.{Option, none, some, map}
use Rattle.model.specs.Lists.{is_some, lowest}
use Rattle.model.specs.TransitionSystem.{TransitionSystem}
use Rattle.model.specs.Machine.{Place, Machine, Decomposition, cover_refusal}
use Rattle.model.specs.Text.{Input, system}

-- the list without its entry k: "higher ones close up"
unfoldable pub removed : {A : Type 0} → ℕ → List A → List A
removed k [] = []
removed zero (x ∷ l) = l
removed (suc k) (x ∷ l) = x ∷ removed k l

-- "the lower number takes both sets and higher ones close up": places i and j, i the lower
unfoldable pub merge_places : ℕ → ℕ → List Place → List Place
merge_places i j ps = removed j (set ps i (get_or ps i [] ++ get_or ps j []))

unfoldable pub merge_machine : ℕ → ℕ → Machine → Machine
merge_machine i j m = record { places = merge_places i j m.places }

-- places i and j of machine k are merged
unfoldable pub merge_in : ℕ → ℕ → ℕ → Decomposition → Decomposition
merge_in k i j [] = []
merge_in zero i j (m ∷ ms) = merge_machine i j m ∷ ms
merge_in (suc k) i j (m ∷ ms) = m ∷ merge_in k i j ms

-- how many places machine k has
unfoldable pub place_count : ℕ → Decomposition → ℕ
place_count k [] = 0
place_count zero (m ∷ ms) = length m.places
place_count (suc k) (m ∷ ms) = place_count k ms

-- i is the lower number, and after the merge 11 and 12 still pass
unfoldable pub mergeable : TransitionSystem → ℕ → Decomposition → ℕ → ℕ → Bool
mergeable ts k ms i j = ltb i j && not (is_some (cover_refusal ts (merge_in k i j ms)))

-- "over pairs of places (by lower number, then by higher)": the lowest place with which place i, the lower one, can be merged,
-- and the lowest place that has one
unfoldable pub partner : TransitionSystem → ℕ → Decomposition → ℕ → Option ℕ
partner ts k ms i = lowest (mergeable ts k ms i) (place_count k ms)

unfoldable pub lower_place : TransitionSystem → ℕ → Decomposition → Option ℕ
lower_place ts k ms = lowest (λ i. is_some (partner ts k ms i)) (place_count k ms)

unfoldable pub merge_with : ℕ → Decomposition → ℕ → Option ℕ → Option Decomposition
merge_with k ms i = map (λ j. merge_in k i j ms)

unfoldable pub merge_lower : TransitionSystem → ℕ → Decomposition → Option ℕ → Option Decomposition
merge_lower ts k ms none = none
merge_lower ts k ms (some i) = merge_with k ms i (partner ts k ms i)

-- the first merge of machine k that can be made; none if there is none
unfoldable pub merge_first : TransitionSystem → ℕ → Decomposition → Option Decomposition
merge_first ts k ms = merge_lower ts k ms (lower_place ts k ms)

-- "taking the pair again from the lowest after a merge": at most n merges of machine k
unfoldable pub merge_times : ℕ → TransitionSystem → ℕ → Decomposition → Decomposition
merge_times zero ts k ms = ms
merge_times (suc n) ts k ms =
    elim
    (merge_first ts k ms) [
      | none ↦ ms
      | some ns ↦ merge_times n ts k ns
    ]

-- "a pass over machines in rising order": the machines below number k. Each merge takes a place away, so that the count of places is enough
unfoldable pub merged_below : ℕ → TransitionSystem → Decomposition → Decomposition
merged_below zero ts ms = ms
merged_below (suc k) ts ms = merge_times (place_count k (merged_below k ts ms)) ts k (merged_below k ts ms)

unfoldable pub merged : TransitionSystem → Decomposition → Decomposition
merged ts ms = merged_below (length ms) ts ms

-- the same plan with the merged split
abbrev pub with_machines : Input → Decomposition → Input
with_machines v ms = record { states = v.states; initial = v.initial; names = v.names; transitions = v.transitions; machines = ms }

unfoldable pub merged_input : Input → Input
merged_input v = with_machines v (merged (system v) v.machines)
