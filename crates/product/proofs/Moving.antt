-- An event on the machines together, by the rows of their moves: the search for a machine that blocks it, and the machines side by side.
use Rattle.std.specs.Prelude.{Option as Found, Some, None, IsSome, MatchOption}
use Prim.Native.Nat.{ℕ, ◌+◌, ◌*◌, ◌<◌, ◌≤◌}
use native.Mathlib.Decide.{ℕ_discrete}
use native.Mathlib.Omega.{arith}
use mathlib.Core.Path.{◌≡◌, refl, ap, sym, ◌∙◌}
use mathlib.Core.Logic.{◌⊎◌, inl, inr, ⊎_elim}
use mathlib.Core.List.{List}
use mathlib.Core.Option.{Option, none, some}
use mathlib.Core.Bool.{Bool, true, false, not, cond, ◌&&◌, ◌||◌}
use borrow.Author.Tests.{le-ltb}
use lib.Dec.{T, eqb, ltb}
use lib.ListN.{length, take, set, length-set}
use lib.Seq.{get_or-set_same, get_or-set_other}
use Rattle.model.specs.Lists.{is_some, lowest, numbers}
use Rattle.model.specs.Product.{move_from, fire, fire_all, blocker}
use Rattle.model.proofs.Laws.{T_true, and_l, and_r, and_not, contra, order, lowest_none, Lowest, found, absent, lowest_view}
use Rattle.rows.specs.Told.{entry}
use Rattle.rows.proofs.Searches.{lowest_same}
use Rattle.regions.specs.Moves.{move_at}
use Rattle.product.specs.Stepping.{PlaceBounds, blocks_at, Steps}
use Rattle.product.specs.Lanes.{Blocking, Lanes}
use Rattle.product.proofs.Firing.{rows_go, rows_halt, rows_pass}

-- what a row of moves has for event e on machine k
abbrev entry_of : List ℕ → ℕ → ℕ → ℕ
entry_of row e k = entry row (e * 16 + k)

-- one machine is ready if the event is not on it or it stands in the pre-place; else it blocks
module _ (pre places : List ℕ) (e k : ℕ) where
  abbrev ready : Bool
  ready = not (ltb (entry_of pre e k) 64) || eqb (entry places k) (entry_of pre e k)

  blocks_ready : blocks_at pre places e k ≡ not ready
  unfolding blocks_at
  blocks_ready = go (ltb (entry_of pre e k) 64) (eqb (entry places k) (entry_of pre e k))
    where
      go : (on stands : Bool) → (on && not stands) ≡ not (not on || stands)
      go false stands = refl
      go true stands = refl

-- where it goes
module _ (pre post places : List ℕ) (e k : ℕ) where
  abbrev goes : Bool → Option ℕ
  goes on = move_from (entry places k) (cond on (some (record { pre = entry_of pre e k; post = entry_of post e k })) none)

  ready_fires : T (ready pre places e k) → fire (move_at pre post) k e (entry places k) ≡ some (cond (ltb (entry_of pre e k) 64) (entry_of post e k) (entry places k))
  unfolding fire move_at move_from
  ready_fires = go (ltb (entry_of pre e k) 64)
    where
      go : (on : Bool) → T (not on || eqb (entry places k) (entry_of pre e k)) → goes on ≡ some (cond on (entry_of post e k) (entry places k))
      go false t = refl
      go true t = rw (T_true (eqb (entry places k) (entry_of pre e k)) t)

  blocks_fires : blocks_at pre places e k ≡ not (is_some (fire (move_at pre post) k e (entry places k)))
  unfolding blocks_at fire move_at move_from is_some
  blocks_fires = go (ltb (entry_of pre e k) 64)
    where
      here : (stands : Bool) → not stands ≡ not (is_some (cond stands (some (entry_of post e k)) none))
      here false = refl
      here true = refl

      go : (on : Bool) → (on && not (eqb (entry places k) (entry_of pre e k))) ≡ not (is_some (goes on))
      go false = refl
      go true = here (eqb (entry places k) (entry_of pre e k))

-- what is the lowest stands below the bound
lowest_below : (f : ℕ → Bool) (n m : ℕ) → lowest f n ≡ some m → m < n
lowest_below f n m q = go (lowest_view f n)
  where
    go : Lowest f n → m < n
    go (found k p l t h) = let s : k ≡ m = cc in rw s at l
    go (absent p h) = cc

-- one that is passed does not block, and one that is not ready does
module _ (pre places : List ℕ) (e m : ℕ) {stands : Bool} (v : stands ≡ ready pre places e m) where
  pub passes : stands ≡ true → T (not (blocks_at pre places e m))
  passes t = rw (blocks_ready pre places e m, ← v, t) tt

  pub blocks : stands ≡ false → T (blocks_at pre places e m)
  blocks t = rw (blocks_ready pre places e m, ← v, t) tt

-- one blocks, and the search finds one
module _ {pre : List ℕ} {machines : ℕ} {places : List ℕ} {e : ℕ} where
  pub lane_stops : Blocking pre machines places e → (r : Found ℕ) → MatchOption r (lowest (blocks_at pre places e) machines ≡ none) (λ m. lowest (blocks_at pre places e) machines ≡ some m)
      → IsSome r
  lane_stops b None f = absurd (contra (blocks_at pre places e b.machine) (lowest_none (blocks_at pre places e) machines f b.machine b.among) b.blocks)
  lane_stops b (Some m) f = refl

module _ {pre post : List ℕ} {machines : ℕ} {places : List ℕ} {e : ℕ} where
  module _ {moved : List ℕ} {all : Bool} {m : ℕ} (z : Lanes pre post machines places e moved all m) (l : m < 16) where
    -- one number more: `stands` says whether its machine is ready, and q where it goes
    lane_on : (stands : Bool) (q : ℕ) → (T stands → m < machines → fire (move_at pre post) m e (entry places m) ≡ some q)
        → (T (not stands) → Blocking pre machines places e) → (machines ≤ m → q ≡ entry places m)
        → Lanes pre post machines places e (set moved m q) (all && stands) (m + 1)
    lane_on stands q goes_on stops stays =
        record {
          most = omega arith;
          size = length-set moved m q ∙ z.size;
          went = λ t k i j. at t k (ℕ_discrete k m) (omega arith) j;
          halted = λ t. ⊎_elim z.halted stops (and_not all stands t);
          later = λ k i. same k (λ s. omega arith) ∙ z.later k (omega arith);
          unused = λ k i. off k i (ℕ_discrete k m);
        }
      where
        here : entry (set moved m q) m ≡ q
        here = get_or-set_same moved m q 0 (omega (arith, z.size))

        same : (k : ℕ) → ¬ (k ≡ m) → entry (set moved m q) k ≡ entry moved k
        same k n = get_or-set_other moved m k q 0 n

        at : T (all && stands) → (k : ℕ) → Dec (k ≡ m) → k ≤ m → k < machines → fire (move_at pre post) k e (entry places k) ≡ some (entry (set moved m q) k)
        at t k (yes s) c j = rw (s, here) (goes_on (and_r all stands t) (omega arith))
        at t k (no n) c j = z.went (and_l all stands t) k (omega arith) j ∙ ap some (sym (same k n))

        off : (k : ℕ) → machines ≤ k → Dec (k ≡ m) → entry (set moved m q) k ≡ entry places k
        off k i (yes s) = rw (s, here) (stays (omega arith))
        off k i (no n) = same k n ∙ z.unused k i

    -- the event is on it where its pre-place is below its bound
    module _ {bounds : List ℕ} (bound : PlaceBounds machines bounds) where
      abbrev on : Bool
      on = ltb (entry_of pre e m) (entry bounds m)

      pub lane_more : {stands : Bool} → stands ≡ (not on || eqb (entry places m) (entry_of pre e m))
          → {q : ℕ} → q ≡ cond on (entry_of post e m) (entry places m)
          → Lanes pre post machines places e (set moved m q) (all && stands) (m + 1)
      lane_more {stands} v {q} w = go (order m machines)
        where
          go : (m < machines) ⊎ (machines ≤ m) → Lanes pre post machines places e (set moved m q) (all && stands) (m + 1)
          go (inl b) =
              let o : on ≡ ltb (entry_of pre e m) 64 = rw (bound.stands m b) in
              let s : stands ≡ ready pre places e m = v ∙ rw o in
              lane_on stands q (λ t c. ready_fires pre post places e m (rw s at t) ∙ ap some (sym (w ∙ rw o)))
              (λ t. record { machine = m; among = b; blocks = rw (blocks_ready pre places e m, sym s) t }) (λ c. absurd (omega arith))
          go (inr b) =
              let o : on ≡ false = le-ltb (entry_of pre e m) (entry bounds m) (omega (arith, bound.unused m b)) in
              let s : stands ≡ true = v ∙ rw o in
              lane_on stands q (λ t c. absurd (omega arith)) (λ t. absurd (rw s at t)) (λ c. w ∙ rw o)

  -- all sixteen are passed
  pub lane_all : {moved : List ℕ} {all : Bool} {m : ℕ} → Lanes pre post machines places e moved all m → 16 ≤ m → Lanes pre post machines places e moved all 16
  lane_all {m = m} z l = let q : m ≡ 16 = omega (arith, z.most) in rw q at z

  module _ (few : machines ≤ 16) (s : length places ≡ 16) where
    -- none blocks
    pub lane_end : {moved : List ℕ} → Lanes pre post machines places e moved true 16 → Steps pre post machines places e (record { blocker = None; places = moved })
    unfolding is_some
    lane_end {moved} z =
        record {
          among = λ m q. cc;
          blocker = sym (rows_pass pre post machines places e (omega (arith, s)) (λ k i. rw (went k i) tt));
          halts = λ m q. cc;
          goes = λ _. rows_go pre post machines places e (omega (arith, s)) moved (omega (arith, z.size)) went;
          size = z.size;
          others = z.unused;
        }
      where
        went : (k : ℕ) → k < machines → fire (move_at pre post) k e (entry places k) ≡ some (entry moved k)
        went k i = z.went tt k (omega arith) i

    -- one blocks: the lowest
    pub lane_blocked : Blocking pre machines places e → (r : Found ℕ) → MatchOption r (lowest (blocks_at pre places e) machines ≡ none) (λ m. lowest (blocks_at pre places e) machines ≡ some m)
        → Steps pre post machines places e (record { blocker = r; places = places })
    lane_blocked b None f = let stops : IsSome {T = ℕ} None = lane_stops b None f in cc
    lane_blocked b (Some m) f =
        record {
          among = λ k q. let p : m ≡ k = cc in rw p at low;
          blocker = sym halted.1;
          halts = λ k q. (halted.0, refl);
          goes = λ q. cc;
          size = s;
          others = λ k i. refl;
        }
      where
        low : m < machines
        low = lowest_below (blocks_at pre places e) machines m f

        halted : (fire_all (move_at pre post) e (numbers machines) (take machines places) ≡ none) × (blocker (move_at pre post) (numbers machines) (take machines places) e ≡ m)
        halted =
            rows_halt pre post machines places e (omega (arith, s)) m
            (sym f ∙ lowest_same (blocks_at pre places e) (λ k. not (is_some (fire (move_at pre post) k e (entry places k)))) machines (λ k i. blocks_fires pre post places e k))
