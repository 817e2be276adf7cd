-- What checking 8 to 10 answers. It reads the counts and five rows of the tables.
use Rattle.std.specs.Prelude.{ℕ, ◌≡◌, Bool, true, List, [], Result, Ok}
use Rattle.std.proofs.Math.Option.{none}
use Rattle.model.specs.declared.Refusal.{Refusal}
use Rattle.model.specs.TransitionSystem.{unused_event}
use Rattle.model.specs.Machine.{Decomposition, machines_refusal}
use Rattle.rows.specs.declared.Counts.{Counts}
use Rattle.rows.specs.declared.Tables.{Tables}
use Rattle.rows.specs.Tables.{verdict_refusal, tables_in}
use Rattle.rows.specs.Told.{system_of, MachinesTold}
use Rattle.rows.specs.Bounded.{Bounded}
use Rattle.rows.specs.Sizes.{CheckedSizes}
use Rattle.regions.specs.Moves.{MoveRows, MovesTold}
use Rattle.regions.specs.Indexed.{Indexed}

-- the tables but for names and sizes, which no check here reads
abbrev pub rows_of : Counts → List ℕ → List ℕ → List ℕ → List ℕ → List ℕ → Tables
rows_of c source event target duplicate place = tables_in c [] [] source event target [] duplicate place

-- past 1 to 7
pub record Checkable (c : Counts) (source event target duplicate place pre post : List ℕ) : Type 0 where
  pub bounded : Bounded (rows_of c source event target duplicate place)
  pub used : unused_event (system_of (rows_of c source event target duplicate place)) ≡ none
  pub lengths : CheckedSizes source event target duplicate place
  pub rows : MoveRows pre post

-- what is answered of the machines that the tables tell of; passed, the rows have the move of each event on each of them
abbrev pub Answer : Tables → Result (Unit {0}) Refusal → List ℕ → List ℕ → Type 0
Answer p r pre post =
    ((ms : Decomposition) → MachinesTold (system_of p) p ms → verdict_refusal r ≡ machines_refusal (system_of p) 0 ms)
    × ((ms : Decomposition) → MachinesTold (system_of p) p ms → verdict_refusal r ≡ none → MovesTold (system_of p) ms pre post)

-- whatever the names and the sizes of the machines are
abbrev pub RegionsTold : Counts → List ℕ → List ℕ → List ℕ → List ℕ → List ℕ → Result (Unit {0}) Refusal → List ℕ → List ℕ → Type 0
RegionsTold c source event target duplicate place r pre post =
    (ats lens sizes : List ℕ) → Bounded (tables_in c ats lens source event target sizes duplicate place)
    → Answer (tables_in c ats lens source event target sizes duplicate place) r pre post

-- the functions above the chains have no row of events: what they ask and answer is said of the rows that the chains are made from

-- past 1 to 7, and the chains are made from a row of events
pub record CheckableAlong (c : Counts) (source target duplicate place first next pre post : List ℕ) : Type 0 where
  pub event : List ℕ
  pub checkable : Checkable c source event target duplicate place pre post
  pub chains : Indexed event c.transitions first next

abbrev pub ToldAlong : Counts → List ℕ → List ℕ → List ℕ → List ℕ → List ℕ → List ℕ → Result (Unit {0}) Refusal → List ℕ → List ℕ → Type 0
ToldAlong c source target duplicate place first next r pre post =
    (event : List ℕ) → Indexed event c.transitions first next → RegionsTold c source event target duplicate place r pre post

-- the answer yes says that all machines pass; after no the rows of moves are of no use
pub record PassesAtOnce (c : Counts) (source target duplicate place first next : List ℕ) (r : Bool) (pre post : List ℕ) : Type 0 where
  pub rows : MoveRows pre post
  pub passed : r ≡ true → ToldAlong c source target duplicate place first next (Ok tt) pre post
