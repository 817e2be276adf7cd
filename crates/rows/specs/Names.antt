-- The names of the events, by their places and lengths in the text.
use Rattle.std.specs.Prelude.{ℕ, zero, suc, List, [], ◌∷◌, ◌++◌, take, drop}
use Rattle.model.specs.Bytes.{Name}
use Rattle.rows.specs.declared.Tables.{Tables}
use Rattle.rows.specs.Told.{entry}

-- the first n names
unfoldable pub names_in : List ℕ → List ℕ → List ℕ → ℕ → List Name
names_in s ats lens zero = []
names_in s ats lens (suc n) = names_in s ats lens n ++ (take (entry lens n) (drop (entry ats n) s) ∷ [])

abbrev pub row_names : List ℕ → Tables → List Name
row_names s p = names_in s p.name_at p.name_len p.counts.events
