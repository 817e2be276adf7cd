-- The places of one machine in groups, each group to be one place: the lowest place that is in no group begins one, and takes, lowest first, what nothing in it bars.
use Rattle.std.specs.Prelude.{ℕ, zero, suc, Bool, not, cond, ◌&&◌, eqb}
use mathlib.Core.List.{List, [], ◌∷◌, ◌++◌, flatten}
use Rattle.std.proofs.Math.Option.{Option, none, some}
use Rattle.model.specs.Lists.{exists, elem, lowest}
use Rattle.model.specs.Product.{Move}

-- place q is in none of these groups
unfoldable pub ungrouped : List (List ℕ) → ℕ → Bool
ungrouped gs q = not (elem q (flatten gs))

-- a place of the group bars q
unfoldable pub barred_by : (ℕ → ℕ → Bool) → List ℕ → ℕ → Bool
barred_by bars g q = exists (λ a. bars a q) g

-- the lowest of n places that the group g takes, after the groups gs
unfoldable pub taken : (ℕ → ℕ → Bool) → ℕ → List (List ℕ) → List ℕ → Option ℕ
taken bars n gs g = lowest (λ q. ungrouped (gs ++ (g ∷ [])) q && not (barred_by bars g q)) n

-- the group with all that it takes, at most k more
unfoldable pub grown : ℕ → (ℕ → ℕ → Bool) → ℕ → List (List ℕ) → List ℕ → List ℕ
grown zero bars n gs g = g
grown (suc k) bars n gs g =
    elim
    (taken bars n gs g) [
      | none ↦ g
      | some q ↦ grown k bars n gs (g ++ (q ∷ []))
    ]

-- these groups and those after them, at most k more
unfoldable pub grouped_from : ℕ → (ℕ → ℕ → Bool) → ℕ → List (List ℕ) → List (List ℕ)
grouped_from zero bars n gs = gs
grouped_from (suc k) bars n gs =
    elim
    (lowest (ungrouped gs) n) [
      | none ↦ gs
      | some q ↦ grouped_from k bars n (gs ++ (grown n bars n gs (q ∷ []) ∷ []))
    ]

-- n places in groups; the number of a place's group is its new number
unfoldable pub grouped : (ℕ → ℕ → Bool) → ℕ → List (List ℕ)
grouped bars n = grouped_from n bars n []

-- an event's move once the places have new numbers; none where its ends became one place
unfoldable pub renumbered : (ℕ → ℕ) → Option Move → Option Move
renumbered f none = none
renumbered f (some v) = cond (eqb (f v.pre) (f v.post)) none (some (record { pre = f v.pre; post = f v.post }))
