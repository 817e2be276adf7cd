-- The rows of the merged machines.
use Rattle.std.specs.Prelude.{ℕ, ◌+◌, ◌*◌, ◌<◌, ◌≤◌, ◌≡◌, List, Result, length, set}
use Rattle.std.proofs.Math.Option.{none}
use Rattle.model.specs.Lists.{At}
use Rattle.model.specs.declared.Refusal as D
use Rattle.model.specs.Refusal.{passed}
use Rattle.model.specs.Machine.{Machine, Decomposition, place_of, cover_refusal}
use Rattle.model.specs.Merging.{merged}
use Rattle.model.specs.Text.{Input, system}
use Rattle.model.specs.Services.{as_far_as10}
use Rattle.rows.specs.declared.Counts.{Counts}
use Rattle.rows.specs.declared.Tables.{Tables}
use Rattle.rows.specs.Tables.{verdict_refusal}
use Rattle.rows.specs.Told.{entry}
use Rattle.regions.specs.Moves.{MoveRows, MovesTold}
use Rattle.closure.specs.Covers.{InSets, CoverTold}
use Rattle.merging.specs.Bars.{Seen, Later, Barring, Ends}
use Rattle.merging.specs.Numbers.{Filled, Numbered, Renumbered, United, Narrowed}

-- what merging needs of the rows: their sizes, and that every place in them is one
pub record MergeRows (c : Counts) (place sizes pre post : List ℕ) : Type 0 where
  pub initial : c.initial < 256
  pub place_size_lem : length place ≡ 4096
  pub sizes_size : length sizes ≡ 16
  pub moves : MoveRows pre post
  pub counts : (k : ℕ) → k < c.machines → entry sizes k ≤ 64
  pub starts : (k : ℕ) → k < c.machines → entry place (k * 256 + c.initial) < 64
  pub ends : Ends c.machines c.events pre post

-- the new numbers are those of the groups
pub record NewNumbers (x : Seen) (m size events groups : ℕ) (number : List ℕ) : Type 0 where
  pub bars : List ℕ
  pub barring : Barring x m size events bars
  pub numbered : Numbered bars size groups number

-- the merged places of machine m as sets, by which the common states are narrowed
pub record MachineMet (sets : List ℕ) (m size : ℕ) (number pre : List ℕ) (events : ℕ) (old new : List ℕ) : Type 0 where
  pub unions : List ℕ
  pub united : United sets m size number unions
  pub narrowed : Narrowed unions pre m events old new

-- machine m by the new numbers of its places
pub record MachineMerged (c : Counts) (x : Seen) (m : ℕ) (place sizes place2 sizes2 pre2 post2 earlier2 : List ℕ) : Type 0 where
  pub groups : ℕ
  pub number : List ℕ
  pub numbers : NewNumbers x m (entry sizes m) c.events groups number
  pub moves : Renumbered number m c.events x.pre x.post pre2 post2
  pub start : place2 ≡ set place (m * 256 + c.initial) (entry number (entry place (m * 256 + c.initial)))
  pub count : sizes2 ≡ set sizes m groups
  pub met : MachineMet x.sets m (entry sizes m) number pre2 c.events x.earlier earlier2

-- the rows of a sheet tell these machines, as many as the text has: how many places each has, where it starts, its moves
pub record SheetTold (v : Input) (ms : Decomposition) (place sizes pre post : List ℕ) : Type 0 where
  pub as_many : length ms ≡ length v.machines
  pub counts : (k : ℕ) (m : Machine) → At ms k m → entry sizes k ≡ length m.places
  pub starts : (k : ℕ) (m : Machine) → At ms k m → entry place (k * 256 + v.initial) ≡ place_of m v.initial
  pub moves : MovesTold (system v) ms pre post

-- the rows hold a text that is past 10
pub record HeldPast10 (s : List ℕ) (v : Input) (c : Counts) (place sizes pre post excited : List ℕ) : Type 0 where
  pub passes : as_far_as10 s ≡ passed v
  pub states : c.states ≡ v.states
  pub initial : c.initial ≡ v.initial
  pub events : c.events ≡ length v.names
  pub machines : c.machines ≡ length v.machines
  pub counts : (k : ℕ) (m : Machine) → At v.machines k m → entry sizes k ≡ length m.places
  pub cover : CoverTold (system v) v.machines pre post place excited

-- all but the places and their counts is as it was
abbrev pub RestSame : Tables → Tables → Type 0
RestSame old new = new ≡ record old { place = new.place; sizes = new.sizes }

-- what is left of the rows that a sheet looks at: their sizes, and that the counts of places are in their bound
pub record SheetRows (c : Counts) (place sizes pre post : List ℕ) : Type 0 where
  pub place_size_lem : length place ≡ 4096
  pub sizes_size : length sizes ≡ 16
  pub moves : MoveRows pre post
  pub counts : (k : ℕ) → k < c.machines → entry sizes k ≤ 64

-- with the places as sets, the common states on later machines and all states to begin with: the rows of a sheet tell the merged machines
pub record MachinesMerged (c : Counts) (x : Seen) (place sizes place2 sizes2 pre2 post2 : List ℕ) : Type 0 where
  pub rows : SheetRows c place2 sizes2 pre2 post2
  pub tells : (s : List ℕ) (v : Input) → HeldPast10 s v c place sizes x.pre x.post x.excited → cover_refusal (system v) v.machines ≡ none
      → InSets (system v) v.machines x.sets → Later x.sets x.pre c.machines c.events (length x.later) x.later → Filled c.states c.events x.earlier
      → SheetTold v (merged (system v) v.machines) place2 sizes2 pre2 post2

-- the verdict is that of 11 and 12, and if these pass, the rows of a sheet tell the merged machines
pub record Merges (c : Counts) (place sizes pre post excited : List ℕ) (r : Result (Unit {0}) D.Refusal) (place2 sizes2 pre2 post2 : List ℕ) : Type 0 where
  pub rows : SheetRows c place2 sizes2 pre2 post2
  pub judges : (s : List ℕ) (v : Input) → HeldPast10 s v c place sizes pre post excited → verdict_refusal r ≡ cover_refusal (system v) v.machines
  pub tells : (s : List ℕ) (v : Input) → HeldPast10 s v c place sizes pre post excited → verdict_refusal r ≡ none
      → SheetTold v (merged (system v) v.machines) place2 sizes2 pre2 post2
