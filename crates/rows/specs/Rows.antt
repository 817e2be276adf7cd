-- Rows of numbers: what stands where.
use Rattle.std.specs.Prelude.{ℕ, zero, suc, cond, replicate}
use mathlib.Core.List.{List, [], ◌∷◌, ◌++◌, flatten}
use Rattle.std.proofs.Math.Option.{Option, none, some}
use Rattle.std.proofs.lemmas.List.Edits.{sets}
use Rattle.model.specs.Lists.{elem}
use Rattle.model.specs.Machine.{Place, place_in}

-- a row of n entries x, in which the values are stored from the front
unfoldable pub row : ℕ → ℕ → List ℕ → List ℕ
row n x xs = sets (replicate n x) 0 xs

-- the values of a function at 0 to n - 1
unfoldable pub tabulate : (ℕ → ℕ) → ℕ → List ℕ
tabulate f zero = []
tabulate f (suc n) = tabulate f n ++ (f n ∷ [])

-- the number of the place with the state x, or the mark of a state in no place
unfoldable pub place_mark : List Place → ℕ → ℕ
place_mark ps x = cond (elem x (flatten ps)) (place_in ps x) 255

unfoldable pub place_row : List Place → List ℕ
place_row ps = tabulate (place_mark ps) 256

-- a state, or 256: a number that no state has
unfoldable pub or_no_state : Option ℕ → ℕ
or_no_state none = 256
or_no_state (some x) = x
