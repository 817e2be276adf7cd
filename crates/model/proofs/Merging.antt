-- The pass that merges places: what it leaves, step by step, and that nothing is left to merge.
use Prim.Native.Nat.{ℕ, zero, suc, ◌<◌, ◌≤◌}
use native.Mathlib.Omega.{arith}
use mathlib.Core.Path.{◌≡◌, refl, ap, sym, ◌∙◌, subst}
use mathlib.Core.Logic.{◌⊎◌, inl, inr, ◌↔◌}
use mathlib.Core.Bool.{not}
use mathlib.Core.List.{[], ◌∷◌, Memᴰ}
use mathlib.Core.Option.{none, some, none-ne-some, some-injective}
use lib.Dec.{T, ltb, ltb→lt, lt→ltb}
use lib.ListN.{length}
use Rattle.model.specs.Lists.{At, is_some}
use Rattle.model.specs.Refusal.{Refusal}
use Rattle.model.specs.TransitionSystem.{TransitionSystem}
use Rattle.model.specs.Machine.{Machine, Decomposition, cover_refusal}
use Rattle.model.specs.Table.{Uncovered}
use Rattle.model.specs.Merging.{merge_machine, merge_in, place_count, mergeable, partner, lower_place, merge_with, merge_lower, merge_first, merge_times, merged_below, merged}
use Rattle.model.specs.Merged.{Mergeable, Before, Pass, merges, next, done}
use Rattle.model.proofs.Laws.{not_T, contra, and_l, and_r, and_i, below_suc, order, is_some_none, none_is_some, lowest_none, Lowest, found, absent, lowest_view}
use Rattle.model.proofs.Positions.{at_below}
use Rattle.model.proofs.Bounds.{Within, Listed}
use Rattle.model.proofs.Places.{Good}
use Rattle.model.proofs.Simulate.{covers_of}
use Rattle.model.proofs.Passed.{covers_none}
use Rattle.model.proofs.Kept.{covered_iff}
use Rattle.model.proofs.Coarser.{CoarserAll, each, coarser_refl, coarser_trans, covers_finer}
use Rattle.model.proofs.MergeNumbers.{merged_places}
use Rattle.model.proofs.MergePlaces.{merge_good, merge_listed, merge_coarser}

-- ---- one merge
pub merge_length : (k i j : ℕ) (ms : Decomposition) → length (merge_in k i j ms) ≡ length ms
unfolding merge_in
merge_length k i j [] = refl
merge_length zero i j (m ∷ ms) = refl
merge_length (suc k) i j (m ∷ ms) = ap suc (merge_length k i j ms)

pub merge_count : (k i j : ℕ) (ms : Decomposition) → i < j → j < place_count k ms → suc (place_count k (merge_in k i j ms)) ≡ place_count k ms
unfolding merge_in place_count
merge_count k i j [] h l = absurd (omega arith)
merge_count zero i j (m ∷ ms) h l = (merged_places i j m h l).one_fewer
merge_count (suc k) i j (m ∷ ms) h l = merge_count k i j ms h l

other_count : (k l i j : ℕ) (ms : Decomposition) → ¬ (k ≡ l) → place_count k (merge_in l i j ms) ≡ place_count k ms
unfolding merge_in place_count
other_count k l i j [] d = refl
other_count zero zero i j (m ∷ ms) d = absurd (d refl)
other_count zero (suc l) i j (m ∷ ms) d = refl
other_count (suc k) zero i j (m ∷ ms) d = refl
other_count (suc k) (suc l) i j (m ∷ ms) d = other_count k l i j ms (λ e. d (ap suc e))

count_at : (k : ℕ) (ms : Decomposition) (m : Machine) → At ms k m → place_count k ms ≡ length m.places
unfolding place_count
count_at k [] m e = absurd (none-ne-some m e)
count_at zero (v ∷ ms) m e = ap (λ (x : Machine). length x.places) (some-injective v m e)
count_at (suc k) (v ∷ ms) m e = count_at k ms m e

count_machine : (k : ℕ) (ms : Decomposition) → 0 < place_count k ms → (m : Machine) × At ms k m
unfolding place_count
count_machine k [] h = absurd (omega arith)
count_machine zero (v ∷ ms) h = (v, refl)
count_machine (suc k) (v ∷ ms) h = count_machine k ms h

-- what holds of each machine and of a merged one
pub merge_all : (Q : Machine → Type 0) (k i j : ℕ) (ms : Decomposition) → i < j → j < place_count k ms → ((m : Machine) → Memᴰ m ms → Q m)
    → ((m : Machine) → j < length m.places → Q m → Q (merge_machine i j m)) → (m : Machine) → Memᴰ m (merge_in k i j ms) → Q m
unfolding merge_in place_count
merge_all Q k i j [] h l q f m x = absurd (omega arith)
merge_all Q zero i j (v ∷ ms) h l q f m (Memᴰ.head e) = subst Q (sym e) (f v l (q v (Memᴰ.head refl)))
merge_all Q zero i j (v ∷ ms) h l q f m (Memᴰ.tail x) = q m (Memᴰ.tail x)
merge_all Q (suc k) i j (v ∷ ms) h l q f m (Memᴰ.head e) = q m (Memᴰ.head e)
merge_all Q (suc k) i j (v ∷ ms) h l q f m (Memᴰ.tail x) = merge_all Q k i j ms h l (λ n y. q n (Memᴰ.tail y)) f m x

module _ (p : TransitionSystem) (b : Within p) where
  abbrev GoodAll : Decomposition → Type 0
  GoodAll ms = (m : Machine) → Memᴰ m ms → Good p m

  abbrev ListedAll : Decomposition → Type 0
  ListedAll ms = (m : Machine) → Memᴰ m ms → Listed p m

  pub in_good : (k i j : ℕ) (ms : Decomposition) → i < j → j < place_count k ms → GoodAll ms → GoodAll (merge_in k i j ms)
  in_good k i j ms h l g = merge_all (Good p) k i j ms h l g (λ m x. merge_good p b i j m h x)

  in_listed : (k i j : ℕ) (ms : Decomposition) → i < j → j < place_count k ms → ListedAll ms → ListedAll (merge_in k i j ms)
  in_listed k i j ms h l w = merge_all (Listed p) k i j ms h l w (λ m x. merge_listed p b i j m h x)

  in_coarser : (k i j : ℕ) (ms : Decomposition) → i < j → j < place_count k ms → GoodAll ms → CoarserAll p (merge_in k i j ms) ms
  unfolding merge_in place_count
  in_coarser k i j [] h l g = absurd (omega arith)
  in_coarser zero i j (m ∷ ms) h l g = each (merge_coarser p b i j m h l (g m (Memᴰ.head refl))) (coarser_refl p ms)
  in_coarser (suc k) i j (m ∷ ms) h l g = each (λ s u ls lu x. x) (in_coarser k i j ms h l (λ n y. g n (Memᴰ.tail y)))

  -- a merge of machine k after one of machine l is coarser than the same merge before it
  both_coarser : (k l i j c d : ℕ) (ms : Decomposition) → ¬ (k ≡ l) → c < d → d < place_count l ms → GoodAll ms → CoarserAll p (merge_in k i j (merge_in l c d ms)) (merge_in k i j ms)
  unfolding merge_in place_count
  both_coarser k l i j c d [] n h x g = absurd (omega arith)
  both_coarser zero zero i j c d (m ∷ ms) n h x g = absurd (n refl)
  both_coarser zero (suc l) i j c d (m ∷ ms) n h x g = each (λ s u ls lu y. y) (in_coarser l c d ms h x (λ v y. g v (Memᴰ.tail y)))
  both_coarser (suc k) zero i j c d (m ∷ ms) n h x g = each (merge_coarser p b c d m h x (g m (Memᴰ.head refl))) (coarser_refl p (merge_in k i j ms))
  both_coarser (suc k) (suc l) i j c d (m ∷ ms) n h x g = each (λ s u ls lu y. y) (both_coarser k l i j c d ms (λ e. n (ap suc e)) h x (λ v y. g v (Memᴰ.tail y)))

  -- ---- the first merge that can be made
  pub can_merge : (k i j : ℕ) (ms : Decomposition) → i < j → cover_refusal p (merge_in k i j ms) ≡ none → T (mergeable p k ms i j)
  unfolding mergeable
  can_merge k i j ms h n = and_i (ltb i j) (not (is_some (cover_refusal p (merge_in k i j ms)))) (lt→ltb i j h) (none_is_some (cover_refusal p (merge_in k i j ms)) n)

  pub merge_can : (k i j : ℕ) (ms : Decomposition) → T (mergeable p k ms i j) → (i < j) × (cover_refusal p (merge_in k i j ms) ≡ none)
  unfolding mergeable
  merge_can k i j ms t = (
    ltb→lt i j (and_l (ltb i j) (not (is_some (cover_refusal p (merge_in k i j ms)))) t),
    is_some_none (cover_refusal p (merge_in k i j ms)) (and_r (ltb i j) (not (is_some (cover_refusal p (merge_in k i j ms)))) t),
  )

  -- no pair of machine k can be merged
  abbrev pub Settled : ℕ → Decomposition → Type 0
  Settled k ms = (i j : ℕ) → j < place_count k ms → T (not (mergeable p k ms i j))

  data FirstMerge (k : ℕ) (ms : Decomposition) : Type 0 where
    at_pair : (i j : ℕ) → merge_first p k ms ≡ some (merge_in k i j ms) → i < j → j < place_count k ms → cover_refusal p (merge_in k i j ms) ≡ none
        → ((c d : ℕ) → Before c d i j → d < place_count k ms → T (not (mergeable p k ms c d))) → FirstMerge k ms
    no_pair : merge_first p k ms ≡ none → Settled k ms → FirstMerge k ms

  -- a pair whose lower number is not below the count is none
  too_high : (k c d : ℕ) (ms : Decomposition) → place_count k ms ≤ c → d < place_count k ms → T (not (mergeable p k ms c d))
  too_high k c d ms h l = not_T (mergeable p k ms c d) (λ t. omega (arith, (merge_can k c d ms t).0))

  pair_merged : (k i j : ℕ) (ms : Decomposition) → lower_place p k ms ≡ some i → partner p k ms i ≡ some j → merge_first p k ms ≡ some (merge_in k i j ms)
  unfolding merge_first merge_lower merge_with
  pair_merged k i j ms e f = rw (e, f)

  first_merge : (k : ℕ) (ms : Decomposition) → FirstMerge k ms
  unfolding merge_first lower_place merge_lower partner is_some
  first_merge k ms = go (lowest_view (λ i. is_some (partner p k ms i)) (place_count k ms))
    where
      none_with : (i : ℕ) → T (not (is_some (partner p k ms i))) → (d : ℕ) → d < place_count k ms → T (not (mergeable p k ms i d))
      none_with i n = lowest_none (mergeable p k ms i) (place_count k ms) (is_some_none (partner p k ms i) n)

      go : Lowest (λ i. is_some (partner p k ms i)) (place_count k ms) → FirstMerge k ms
      go (absent e h) = no_pair (rw e) (λ i j l. at i j l (order i (place_count k ms)))
        where
          at : (i j : ℕ) → j < place_count k ms → (i < place_count k ms) ⊎ (place_count k ms ≤ i) → T (not (mergeable p k ms i j))
          at i j l (inl x) = none_with i (h i x) j l
          at i j l (inr x) = too_high k i j ms x l
      go (found i e l t h) = inner (lowest_view (mergeable p k ms i) (place_count k ms))
        where
          inner : Lowest (mergeable p k ms i) (place_count k ms) → FirstMerge k ms
          inner (absent f n) = absurd (contra (is_some (partner p k ms i)) (none_is_some (partner p k ms i) f) t)
          inner (found j f o u n) = at_pair i j (pair_merged k i j ms e f) (merge_can k i j ms u).0 o (merge_can k i j ms u).1 before
            where
              before : (c d : ℕ) → Before c d i j → d < place_count k ms → T (not (mergeable p k ms c d))
              before c d (inl x) y = none_with c (h c x) d y
              before c d (inr x) y = rw x.0 (n d x.1)

  -- ---- what is kept from merge to merge
  pub record State (os ms : Decomposition) : Type 0 where
    pub good : (m : Machine) → Memᴰ m ms → Good p m
    pub listed : (m : Machine) → Memᴰ m ms → Listed p m
    pub covers : cover_refusal p ms ≡ none
    pub coarser : CoarserAll p ms os
    pub size : length ms ≡ length os

  one_merge : (os : Decomposition) (k i j : ℕ) (ms : Decomposition) → i < j → j < place_count k ms → cover_refusal p (merge_in k i j ms) ≡ none → State os ms → State os (merge_in k i j ms)
  one_merge os k i j ms h l n s =
      record {
        good = in_good k i j ms h l s.good;
        listed = in_listed k i j ms h l s.listed;
        covers = n;
        coarser = coarser_trans p (merge_in k i j ms) ms os (in_coarser k i j ms h l s.good) s.coarser;
        size = merge_length k i j ms ∙ s.size;
      }

  -- a property of the machines that each merge keeps, all merges keep
  module _ (Q : Decomposition → Type 0) (keeps : (k i j : ℕ) (ms : Decomposition) → i < j → j < place_count k ms → cover_refusal p (merge_in k i j ms) ≡ none → Q ms → Q (merge_in k i j ms)) where
    times_keeps : (n k : ℕ) (ms : Decomposition) → Q ms → Q (merge_times n p k ms)
    unfolding merge_times
    times_keeps zero k ms q = q
    times_keeps (suc n) k ms q = go (first_merge k ms) (times_keeps n k)
      where
        go : FirstMerge k ms → ((ns : Decomposition) → Q ns → Q (merge_times n p k ns))
            → Q (elim (merge_first p k ms) [ none ↦ ms | some ns ↦ merge_times n p k ns ])
        go (no_pair e h) ih = rw e q
        go (at_pair i j e h l c x) ih = rw e (ih (merge_in k i j ms) (keeps k i j ms h l c q))

    pub below_keeps : (k : ℕ) (ms : Decomposition) → Q ms → Q (merged_below k p ms)
    unfolding merged_below
    below_keeps zero ms q = q
    below_keeps (suc k) ms q = times_keeps _ _ _ (below_keeps k ms q)

  times_state : (os : Decomposition) (n k : ℕ) (ms : Decomposition) → State os ms → State os (merge_times n p k ms)
  times_state os = times_keeps (State os) (λ k i j ms. one_merge os k i j ms)

  pub below_state : (os : Decomposition) (k : ℕ) (ms : Decomposition) → State os ms → State os (merged_below k p ms)
  below_state os = below_keeps (State os) (λ k i j ms. one_merge os k i j ms)

  -- ---- nothing is left to merge
  -- what cannot be merged in machine k cannot be merged after a merge in another machine
  still_settled : (os : Decomposition) (k l c d : ℕ) (ms : Decomposition) → State os ms → ¬ (k ≡ l) → c < d → d < place_count l ms → Settled k ms → Settled k (merge_in l c d ms)
  still_settled os k l c d ms s n h x f i j y = not_T (mergeable p k (merge_in l c d ms) i j) again
    where
      low : j < place_count k ms
      low = subst (λ (z : ℕ). j < z) (other_count k l c d ms n) y

      again : ¬ T (mergeable p k (merge_in l c d ms) i j)
      again t =
          let w = merge_can k i j (merge_in l c d ms) t in
          contra (mergeable p k ms i j) (f i j low)
          (can_merge k i j ms w.0
          (covers_none p (merge_in k i j ms)
          (covers_finer p b (merge_in k i j (merge_in l c d ms)) (merge_in k i j ms) (both_coarser k l i j c d ms n h x s.good) (in_good k i j ms w.0 low s.good)
          (covers_of p (merge_in k i j (merge_in l c d ms)) w.1))))

  times_settled : (os : Decomposition) (n k l : ℕ) (ms : Decomposition) → State os ms → ¬ (k ≡ l) → Settled k ms → Settled k (merge_times n p l ms)
  unfolding merge_times
  times_settled os zero k l ms s d f = f
  times_settled os (suc n) k l ms s d f = go (first_merge l ms) (times_settled os n k l)
    where
      go : FirstMerge l ms → ((ns : Decomposition) → State os ns → ¬ (k ≡ l) → Settled k ns → Settled k (merge_times n p l ns))
          → Settled k (elim (merge_first p l ms) [ none ↦ ms | some ns ↦ merge_times n p l ns ])
      go (no_pair e h) ih = rw e f
      go (at_pair i j e h x c y) ih = rw e (ih (merge_in l i j ms) (one_merge os l i j ms h x c s) d (still_settled os k l i j ms s d h x f))

  -- as many merges as places are enough
  times_enough : (n k : ℕ) (ms : Decomposition) → place_count k ms ≤ n → Settled k (merge_times n p k ms)
  unfolding merge_times
  times_enough zero k ms h = λ i j l. absurd (omega (arith, h, l))
  times_enough (suc n) k ms h = go (first_merge k ms) (times_enough n k)
    where
      go : FirstMerge k ms → ((ns : Decomposition) → place_count k ns ≤ n → Settled k (merge_times n p k ns))
          → Settled k (elim (merge_first p k ms) [ none ↦ ms | some ns ↦ merge_times n p k ns ])
      go (no_pair e f) ih = rw e f
      go (at_pair i j e x l c y) ih = rw e (ih (merge_in k i j ms) (omega (arith, merge_count k i j ms x l, h)))

  pub below_settled : (os : Decomposition) (n k : ℕ) (ms : Decomposition) → State os ms → k < n → Settled k (merged_below n p ms)
  unfolding merged_below
  below_settled os zero k ms s h = absurd (omega arith)
  below_settled os (suc n) k ms s h = go _ (below_suc k n h) (below_settled os n k ms s) (omega arith)
    where
      go : (c : ℕ) → (k < n) ⊎ (k ≡ n) → (k < n → Settled k (merged_below n p ms)) → place_count n (merged_below n p ms) ≤ c → Settled k (merge_times c p n (merged_below n p ms))
      go c (inl x) ih l = times_settled os c k n (merged_below n p ms) (below_state os n ms s) (λ (e : k ≡ n). omega (arith, e, x)) (ih x)
      go c (inr e) ih l = rw e (times_enough c n (merged_below n p ms) l)

  -- ---- in the words of the paper: the test is the statement

  pub mergeable_iff : (os : Decomposition) (k i j : ℕ) (ms : Decomposition) → State os ms → (T (mergeable p k ms i j) × (j < place_count k ms)) ↔ Mergeable p k ms i j
  mergeable_iff os k i j ms s = (to, from)
    where
      covered : (i < j) → (j < place_count k ms) → (cover_refusal p (merge_in k i j ms) ≡ none) ↔ ((r : Refusal) → ¬ Uncovered p (merge_in k i j ms) r)
      covered h l = covered_iff p (merge_in k i j ms) b (in_good k i j ms h l s.good) (in_listed k i j ms h l s.listed)

      to : (T (mergeable p k ms i j) × (j < place_count k ms)) → Mergeable p k ms i j
      to x =
          let w = merge_can k i j ms x.0 in
          let v = count_machine k ms (omega (arith, x.1)) in
          record { machine = v.0; numbered = v.1; lower = w.0; higher = subst (λ (z : ℕ). j < z) (count_at k ms v.0 v.1) x.1; covered = (covered w.0 x.1).0 w.1 }

      from : Mergeable p k ms i j → (T (mergeable p k ms i j) × (j < place_count k ms))
      from x =
          let l = subst (λ (z : ℕ). j < z) (sym (count_at k ms x.machine x.numbered)) x.higher in
          (can_merge k i j ms x.lower ((covered x.lower l).1 x.covered), l)

  settled_none : (os : Decomposition) (k : ℕ) (ms : Decomposition) → State os ms → Settled k ms → (i j : ℕ) → ¬ Mergeable p k ms i j
  settled_none os k ms s f i j x = let w = (mergeable_iff os k i j ms s).1 x in contra (mergeable p k ms i j) (f i j w.1) w.0

  times_pass : (os : Decomposition) (n k : ℕ) (ms ns : Decomposition) → State os ms → place_count k ms ≤ n → k < length ms → Pass p (suc k) (merge_times n p k ms) ns → Pass p k ms ns
  unfolding merge_times
  times_pass os zero k ms ns s h l x = next l (settled_none os k ms s (λ i j y. absurd (omega (arith, h, y)))) x
  times_pass os (suc n) k ms ns s h l x = go (first_merge k ms) (times_pass os n k) x
    where
      go : FirstMerge k ms
          → ((qs rs : Decomposition) → State os qs → place_count k qs ≤ n → k < length qs → Pass p (suc k) (merge_times n p k qs) rs → Pass p k qs rs)
          → Pass p (suc k) (elim (merge_first p k ms) [ none ↦ ms | some qs ↦ merge_times n p k qs ]) ns → Pass p k ms ns
      go (no_pair e f) ih y = next l (settled_none os k ms s f) (rw e at y)
      go (at_pair i j e u v c before) ih y =
          merges i j ((mergeable_iff os k i j ms s).0 (can_merge k i j ms u c, v))
          (λ a d z w. let t = (mergeable_iff os k a d ms s).1 w in contra (mergeable p k ms a d) (before a d z t.1) t.0)
          (ih (merge_in k i j ms) ns (one_merge os k i j ms u v c s) (omega (arith, merge_count k i j ms u v, h)) (omega (arith, merge_length k i j ms, l)) (rw e at y))

  below_pass : (os : Decomposition) (k : ℕ) (ms ns : Decomposition) → State os ms → k ≤ length ms → Pass p k (merged_below k p ms) ns → Pass p 0 ms ns
  unfolding merged_below
  below_pass os zero ms ns s h x = x
  below_pass os (suc k) ms ns s h x =
      let w = below_state os k ms s in
      below_pass os k ms ns s (omega (arith, h))
      (times_pass os _ k (merged_below k p ms) ns w (omega arith) (omega (arith, w.size, s.size, h)) x)

  pub merged_pass : (ms : Decomposition) → State ms ms → Pass p 0 ms (merged p ms)
  unfolding merged
  merged_pass ms s = below_pass ms (length ms) ms (merged_below (length ms) p ms) s (omega arith) (done (omega (arith, (below_state ms (length ms) ms s).size)))

  pub merged_state : (ms : Decomposition) → State ms ms → State ms (merged p ms)
  unfolding merged
  merged_state ms s = below_state ms (length ms) ms s

  pub merged_maximal : (ms : Decomposition) → State ms ms → (k i j : ℕ) → ¬ Mergeable p k (merged p ms) i j
  unfolding merged
  merged_maximal ms s k i j x =
      let w = below_state ms (length ms) ms s in
      settled_none ms k (merged_below (length ms) p ms) w
      (below_settled ms (length ms) k ms s (omega (arith, at_below (merged_below (length ms) p ms) k x.machine x.numbered, w.size))) i j x
