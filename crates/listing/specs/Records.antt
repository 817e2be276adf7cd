-- Step records, and the rows of numbers that they are filled from.
use Rattle.std.specs.Prelude.{ℕ, zero, suc, ◌+◌, ◌*◌, List, [], ◌∷◌, ◌++◌, drop}
use Rattle.model.specs.declared.Transition.{Transition}
use Rattle.rows.specs.Told.{entry}

-- record i of a row with three numbers to a record
abbrev pub record_at : List ℕ → ℕ → Transition
record_at numbers i = record { source = entry numbers (3 * i); event = entry numbers (3 * i + 1); target = entry numbers (3 * i + 2) }

-- its first k records
unfoldable pub first_records : List ℕ → ℕ → List Transition
first_records numbers zero = []
first_records numbers (suc i) = first_records numbers i ++ (record_at numbers i ∷ [])

-- the first k records filled, the others as they were
unfoldable pub filled : List ℕ → ℕ → List Transition → List Transition
filled numbers k out = first_records numbers k ++ drop k out
