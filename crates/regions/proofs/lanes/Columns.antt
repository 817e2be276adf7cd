-- The columns while they are made, and what is compared in them is compared in the machines.
use Prim.Native.Nat.{ℕ, ◌+◌, ◌*◌, ◌<◌, ◌≤◌}
use native.Mathlib.Omega.{arith}
use borrow.Author.Count.{below_more}
use mathlib.Core.Path.{◌≡◌, ◌∙◌}
use mathlib.Core.Bool.{Bool, true, false, true≢false}
use Rattle.std.specs.Prelude.{Option, Some, None}
use Rattle.std.specs.Option.{is_some}
use mathlib.Core.List.{List}
use lib.ListN.{length}
use Rattle.rows.specs.declared.Counts.{Counts}
use Rattle.rows.specs.Told.{entry}
use Rattle.regions.specs.Crossings.{crossing_at}
use Rattle.regions.specs.Columns.{lane_at, Lane, PutLane, Comparable, UnevenAt, AlikeAtOnce}
use Rattle.regions.proofs.lanes.Lanes.{lane_of}

-- a flag that each of the numbers below k has left raised
pub record Flagged (P : ℕ → Type 0) (n k : ℕ) (flag : Bool) : Type 0 where
  pub most : k ≤ n
  pub each : flag ≡ true → (j : ℕ) → j < k → P j

-- the lane has the places of the states before x
pub record Putting (place : List ℕ) (n m : ℕ) (columns₀ columns : List ℕ) (x : ℕ) : Type 0 where
  pub most : x ≤ n
  pub size : length columns ≡ length columns₀
  pub places : (y : ℕ) → y < x → entry columns (y * 16 + m) ≡ entry place (m * 256 + y)
  pub others : (y j : ℕ) → j < m → entry columns (y * 16 + j) ≡ entry columns₀ (y * 16 + j)

-- the lanes of the machines before m
pub record Transposing (place : List ℕ) (n machines : ℕ) (columns₀ columns : List ℕ) (m : ℕ) : Type 0 where
  pub most : m ≤ machines
  pub size : length columns ≡ length columns₀
  pub lanes : (j : ℕ) → j < m → Lane place n columns j

module _ {place : List ℕ} {n machines : ℕ} where
  pub transpose_more : {columns₀ columns columns2 : List ℕ} {m : ℕ} → m < machines → Transposing place n machines columns₀ columns m
      → PutLane place n m columns columns2 → ((x : ℕ) → x < n → ¬ (entry place (m * 256 + x) ≡ 255)) → Transposing place n machines columns₀ columns2 (m + 1)
  transpose_more {m = m} l t p placed =
      record {
        most = omega arith;
        size = p.size ∙ t.size;
        lanes =
            below_more _ m
            (λ j h. record { places = λ x b. p.others x j h ∙ (t.lanes j h).places x b; placed = (t.lanes j h).placed })
            (record { places = p.places; placed = placed });
      }

module _ (c : Counts) {source target place first next columns : List ℕ} (q : Comparable source target first next c.states c.events c.transitions)
    (lanes : (m : ℕ) → m < c.machines → Lane place c.states columns m) where
  pub lane_crossing : (m : ℕ) → m < c.machines → (k : ℕ) → k < c.transitions → lane_at columns (entry source k * 16) (entry target k * 16) m ≡ crossing_at source target place m k
  unfolding lane_at crossing_at
  lane_crossing m h k l = rw ((lanes m h).places (entry source k) (q.sources k l), (lanes m h).places (entry target k) (q.targets k l))

  -- no event is uneven
  pub alike_lanes : (r : Option ℕ) → c.machines ≤ 16 → UnevenAt source target first next columns c.events c.transitions r → is_some r ≡ false
      → AlikeAtOnce c source target place first next
  alike_lanes (Some e) b u h = absurd (true≢false h)
  alike_lanes None b u h =
      record {
        placed = λ m h. (lanes m h).placed;
        alike = λ event i m h d l k lk t.
            rw (lane_crossing m h (entry first d) (q.chain.begins d l), lane_crossing m h k lk)
            at (lane_of columns _ _ _ _ 16 m (omega arith) (u.even event i d l k lk t));
      }
