-- The scan for 10 over all machines at once: the events before e are even, and of event e the transitions before k lead like its first.
use Prim.Native.Nat.{ℕ, ◌+◌, ◌*◌, ◌<◌, ◌≤◌}
use native.Mathlib.Omega.{arith}
use borrow.Author.Count.{below_more}
use mathlib.Core.Path.{◌≡◌}
use mathlib.Core.Bool.{Bool, true}
use mathlib.Core.List.{List}
use lib.Dec.{T}
use Rattle.rows.specs.Told.{entry}
use Rattle.regions.specs.Indexed.{Indexed}
use Rattle.regions.specs.Columns.{lanes_agree, alike_at}
use Rattle.regions.proofs.chains.Walks.{Walk, walk_start, walk_next, T-passed}
use Rattle.regions.proofs.lanes.Lanes.{lanes_self}

pub record Even (source target first next columns : List ℕ) (events n e : ℕ) : Type 0 where
  pub most : e ≤ events
  pub even : (event : List ℕ) → Indexed event n first next → (d : ℕ) → d < e → (k : ℕ) → k < n → entry event k ≡ d → T (alike_at columns source target (entry first d) k)

-- the transitions of event e before k lead like its first, whose columns begin at from and to
pub record Comparing (source target first next columns : List ℕ) (n e from to k : ℕ) : Type 0 where
  pub source_column : from ≡ entry source (entry first e) * 16
  pub target_column : to ≡ entry target (entry first e) * 16
  pub walk : Walk first next n e (alike_at columns source target (entry first e)) k

module _ {source target first next columns : List ℕ} {n e : ℕ} where
  -- at the transition after the first
  pub compare_start : (f s t k : ℕ) → e < 64 → f ≡ entry first e → s ≡ entry source f → t ≡ entry target f → f < n → k ≡ entry next f → Comparing source target first next columns n e (s * 16) (t * 16) k
  compare_start f s t k l q a b h r =
      record {
        source_column = rw (a, q);
        target_column = rw (b, q);
        walk = walk_next k h r (rw q (lanes_self columns (entry source (entry first e) * 16) (entry target (entry first e) * 16) 16)) (walk_start f l q);
      }

  module _ {from to k : ℕ} (v : Comparing source target first next columns n e from to k) where
    -- the answer of the comparison with transition k
    pub compare_read : (s2 t2 : ℕ) {r : Bool} → s2 ≡ entry source k → t2 ≡ entry target k → r ≡ lanes_agree columns from to (s2 * 16) (t2 * 16) 16
        → r ≡ alike_at columns source target (entry first e) k
    compare_read s2 t2 a b q = rw (← a, ← b, ← v.source_column, ← v.target_column) q

    pub compare_next : (s2 t2 k2 : ℕ) (r : Bool) → k < n → s2 ≡ entry source k → t2 ≡ entry target k → r ≡ lanes_agree columns from to (s2 * 16) (t2 * 16) 16
        → r ≡ true → k2 ≡ entry next k → Comparing source target first next columns n e from to k2
    compare_next s2 t2 k2 r l a b q f w =
        record {
          source_column = v.source_column;
          target_column = v.target_column;
          walk = walk_next k2 l w (T-passed r _ (compare_read s2 t2 a b q) f) v.walk;
        }

module _ {source target first next columns : List ℕ} {events n : ℕ} where
  module _ {e k : ℕ} (so : Even source target first next columns events n e) {from to : ℕ} (v : Comparing source target first next columns n e from to k) (l : e < events) where
    -- past the last transition of the event
    pub even_more : n ≤ k → Even source target first next columns events n (e + 1)
    even_more b = record { most = omega arith; even = λ event i. below_more _ e (so.even event i) (λ j h q. v.walk.passed event i j (omega arith) h q) }
