-- How the rows of a line are filled, item by item: what the inner functions promise.
use Rattle.std.specs.Prelude.{ℕ, suc, ◌≡◌, Bool, true, false, cond, List, [], ◌∷◌, ltb, eqb, length, get_or, set, drop, Option, Some, None}
use Rattle.model.specs.Machine.{Place}
use Rattle.model.specs.Bytes.{Name, bytes, starts}
use Rattle.model.specs.Reading.{Parsed, fail, got, Reader, ◌>>=◌, ◌>>◌, give, lit, figure, items}
use Rattle.model.specs.Form.{spaced_figure}
use Rattle.lines.specs.declared.EventsLine.{EventsLine}
use Rattle.lines.specs.declared.marks.Marks.{Marks}
use Rattle.lines.specs.declared.marks.Places.{Places}

unfoldable pub as_names : List Name × ℕ → EventsLine
as_names r = record { count = length r.0; next = r.1 }

-- a machine's row so far, whether all its states are declared, and the lowest that was listed twice
pub record Marking : Type 0 where
  pub declared : Bool
  pub duplicate : ℕ
  pub row : List ℕ

abbrev pub marking : Marks → Marking
marking m = record { declared = m.declared; duplicate = m.duplicate; row = m.row }

-- a state of place p: below n it goes into the row; the first place that lists it counts
unfoldable pub marked : ℕ → ℕ → Marking → ℕ → Marking
marked n p m x =
    cond
    (ltb x n)
    (cond
    (eqb (get_or m.row x 0) 255)
    (record { declared = m.declared; duplicate = m.duplicate; row = set m.row x p })
    (record { declared = m.declared; duplicate = cond (ltb x m.duplicate) x m.duplicate; row = m.row }))
    (record { declared = false; duplicate = m.duplicate; row = m.row })

unfoldable pub marked_all : ℕ → ℕ → Marking → List ℕ → Marking
marked_all n p m [] = m
marked_all n p m (x ∷ xs) = marked_all n p (marked n p m x) xs

-- the number of place k; 64 for each past the limit
unfoldable pub up_to64 : ℕ → ℕ
up_to64 k = cond (ltb k 64) k 64

-- places, the first of them number k
unfoldable pub marked_places : ℕ → ℕ → Marking → List Place → Marking
marked_places n k m [] = m
marked_places n k m (xs ∷ ps) = marked_places n (suc k) (marked_all n (up_to64 k) m xs) ps

-- a place after the bracket that opens it
unfoldable pub opened : Reader Place
opened = do
  x ← figure
  xs ← items spaced_figure
  lit ")"
  give (x ∷ xs)

pub record PlaceFound (n p : ℕ) (m : Marking) (o : Parsed Place) (next : ℕ) (after : Marking) : Type 0 where
  pub place : Place
  pub read : o ≡ got place next
  pub rows : after ≡ marked_all n p m place

-- what reading one place answers and leaves marked
unfoldable pub PlaceRead : ℕ → ℕ → Marking → Parsed Place → Option ℕ → Marking → Type 0
PlaceRead n p m o None after = o ≡ fail
PlaceRead n p m o (Some next) after = PlaceFound n p m o next after

pub record PlacesFound (n : ℕ) (m : Marking) (r : List Place × ℕ) (all : Places) (after : Marking) : Type 0 where
  pub counted : all.count ≡ length r.0
  pub ends : all.next ≡ r.1
  pub rows : after ≡ marked_places n 0 m r.0

-- what reading all places of a line answers and leaves marked; none: after those of their form stands a bracket that opens no place
unfoldable pub PlacesRead : ℕ → Marking → List ℕ → List Place × ℕ → Option Places → Marking → Type 0
PlacesRead n m s r None after = starts (bytes " (") (drop r.1 s) ≡ true
PlacesRead n m s r (Some all) after = PlacesFound n m r all after
