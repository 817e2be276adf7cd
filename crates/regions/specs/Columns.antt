-- The places of all machines side by side: the 16 entries from x * 16 on are the column of state x, its places, with a lane for each machine.
use Rattle.std.specs.Prelude.{ℕ, Option, Some, None, zero, suc, ◌+◌, ◌*◌, ◌<◌, ◌≤◌, ◌≡◌, Bool, true, not, ◌&&◌, List, T, length}
use Rattle.rows.specs.declared.Counts.{Counts}
use Rattle.rows.specs.Told.{entry}
use Rattle.regions.specs.declared.crossings.Crossing.{Crossing}
use Rattle.regions.specs.Indexed.{Indexed, Chained}
use Rattle.regions.specs.Moves.{MoveRows}
use Rattle.regions.specs.Crossings.{crossing_at, agreeing, pre_mark, MovesPut}

-- from the column at one position to the column at another, in lane m
unfoldable pub lane_at : List ℕ → ℕ → ℕ → ℕ → Crossing
lane_at columns from to m = record { pre = entry columns (from + m); post = entry columns (to + m) }

-- from one column to another and from a third to a fourth, alike in each of the first lanes
unfoldable pub lanes_agree : List ℕ → ℕ → ℕ → ℕ → ℕ → ℕ → Bool
lanes_agree columns from to from2 to2 zero = true
lanes_agree columns from to from2 to2 (suc m) = lanes_agree columns from to from2 to2 m && agreeing (lane_at columns from to m) (lane_at columns from2 to2 m)

-- transitions j and k lead alike through all machines
abbrev pub alike_at : List ℕ → List ℕ → List ℕ → ℕ → ℕ → Bool
alike_at columns source target j k = lanes_agree columns (entry source j * 16) (entry target j * 16) (entry source k * 16) (entry target k * 16) 16

-- lane m has the places of machine m, which places each of n states
pub record Lane (place : List ℕ) (n : ℕ) (columns : List ℕ) (m : ℕ) : Type 0 where
  pub places : (x : ℕ) → x < n → entry columns (x * 16 + m) ≡ entry place (m * 256 + x)
  pub placed : (x : ℕ) → x < n → ¬ (entry place (m * 256 + x) ≡ 255)

-- lane m is put into the columns, and the lanes before it are as they were
pub record PutLane (place : List ℕ) (n m : ℕ) (columns columns2 : List ℕ) : Type 0 where
  pub size : length columns2 ≡ length columns
  pub places : (x : ℕ) → x < n → entry columns2 (x * 16 + m) ≡ entry place (m * 256 + x)
  pub others : (x j : ℕ) → j < m → entry columns2 (x * 16 + j) ≡ entry columns (x * 16 + j)

-- n transitions among the states, and the chains of the events
pub record Comparable (source target first next : List ℕ) (states events n : ℕ) : Type 0 where
  pub source_size : length source ≡ 1024
  pub target_size : length target ≡ 1024
  pub most : n ≤ 1024
  pub most_events : events ≤ 64
  pub chain : Chained n events first next
  pub sources : (k : ℕ) → k < n → entry source k < states
  pub targets : (k : ℕ) → k < n → entry target k < states

-- each transition of the events before r leads like the first of its event; of event r, if there is one, not each
pub record FirstUneven (source target first next columns : List ℕ) (events n r : ℕ) : Type 0 where
  pub most : r ≤ events
  pub even : (event : List ℕ) → Indexed event n first next → (d : ℕ) → d < r → (k : ℕ) → k < n → entry event k ≡ d → T (alike_at columns source target (entry first d) k)
  pub uneven : (event : List ℕ) → Indexed event n first next → r < events → (k : ℕ) × (k < n) × (entry event k ≡ r) × T (not (alike_at columns source target (entry first r) k))

-- that event, if there is one
abbrev pub UnevenAt : List ℕ → List ℕ → List ℕ → List ℕ → List ℕ → ℕ → ℕ → Option ℕ → Type 0
UnevenAt source target first next columns events n None = FirstUneven source target first next columns events n events
UnevenAt source target first next columns events n (Some e) = (e < events) × FirstUneven source target first next columns events n e

-- each machine places every state, and each transition leads through it like the first of its event
pub record AlikeAtOnce (c : Counts) (source target place first next : List ℕ) : Type 0 where
  pub placed : (m : ℕ) → m < c.machines → (x : ℕ) → x < c.states → ¬ (entry place (m * 256 + x) ≡ 255)
  pub alike : (event : List ℕ) → Indexed event c.transitions first next → (m : ℕ) → m < c.machines → (d : ℕ) → d < c.events → (k : ℕ) → k < c.transitions → entry event k ≡ d
      → T (agreeing (crossing_at source target place m (entry first d)) (crossing_at source target place m k))

-- event e has its moves, those from one column to another in the first n lanes, and the events before it have theirs as before
pub record EventPut (columns : List ℕ) (from to e : ℕ) (pre post pre2 post2 : List ℕ) (n : ℕ) : Type 0 where
  pub rows : MoveRows pre2 post2
  pub pres : (m : ℕ) → m < n → entry pre2 (e * 16 + m) ≡ pre_mark (lane_at columns from to m)
  pub posts : (m : ℕ) → m < n → entry post2 (e * 16 + m) ≡ (lane_at columns from to m).post
  pub pres_kept : (i : ℕ) → i < e * 16 → entry pre2 i ≡ entry pre i
  pub posts_kept : (i : ℕ) → i < e * 16 → entry post2 i ≡ entry post i

-- the moves of the events, those of their first transitions in each lane
pub record EventsPut (source target first columns : List ℕ) (events : ℕ) (pre post : List ℕ) : Type 0 where
  pub rows : MoveRows pre post
  pub pres : (e : ℕ) → e < events → (m : ℕ) → m < 16 → entry pre (e * 16 + m) ≡ pre_mark (lane_at columns (entry source (entry first e) * 16) (entry target (entry first e) * 16) m)
  pub posts : (e : ℕ) → e < events → (m : ℕ) → m < 16 → entry post (e * 16 + m) ≡ (lane_at columns (entry source (entry first e) * 16) (entry target (entry first e) * 16) m).post

-- the answer yes says that the machines agree, and the rows have their moves
pub record AgreesAtOnce (c : Counts) (source target place first next : List ℕ) (r : Bool) (pre post : List ℕ) : Type 0 where
  pub rows : MoveRows pre post
  pub alike : r ≡ true → AlikeAtOnce c source target place first next
  pub moves : r ≡ true → MovesPut source target place first c.events c.machines pre post
