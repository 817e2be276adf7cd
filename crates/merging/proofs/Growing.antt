-- The pass while one group grows: the groups before it are closed, and each place that it takes is the next merge.
use Prim.Native.Nat.{ℕ, zero, suc, ◌<◌, ◌≤◌}
use native.Mathlib.Omega.{arith}
use mathlib.Core.Path.{◌≡◌, refl, ap, sym, ◌∙◌, subst}
use mathlib.Core.Logic.{◌⊎◌, inl, inr, ◌↔◌}
use mathlib.Core.Bool.{Bool, not, ◌&&◌}
use mathlib.Core.List.Memᴰ
use mathlib.Core.List.{List, [], ◌∷◌, ◌++◌, map, append_assoc, Memᴰ}
use mathlib.Core.Option.{Option, none, some}
use lib.Dec.{T}
use lib.ListN.{length, length-append}
use Rattle.model.specs.Lists.{At, elem}
use Rattle.model.specs.TransitionSystem.{TransitionSystem}
use Rattle.model.specs.Machine.{Machine, Decomposition, place_in}
use Rattle.model.specs.Merging.{merge_places, place_count, mergeable, merge_first, merge_times}
use Rattle.model.specs.Merged.{Before}
use Rattle.model.proofs.Laws.{not_T, not_not, not_and, order, exists_elim, none_exists}
use Rattle.model.proofs.ListLaws.{map_append, map_mem}
use Rattle.model.proofs.Positions.{at_below, below_at, at_left, left_at, at_middle}
use Rattle.model.proofs.Bounds.{Within}
use Rattle.model.proofs.Merging.{State, merge_can}
use Rattle.merging.specs.Groups.{ungrouped, barred_by}
use Rattle.merging.proofs.Barring.{Barred}
use Rattle.merging.proofs.Parting.{single, mem_elem, elem_mem, group_number, group_low, group_some, rest_out}
use Rattle.merging.proofs.Joined.{split_by, merge_split, count_split, merge_seams}
use Rattle.model.proofs.Rising.{Rising}
use Rattle.merging.proofs.Rising.{rising_before, rising_without, at_beyond, past_left, past_all}
use Rattle.merging.proofs.Pairs.{Stands, refused, allowed, free_stands, first_is}

pub times_step : (t : ℕ) (p : TransitionSystem) (k : ℕ) (ms ns : Decomposition) → merge_first p k ms ≡ some ns → merge_times (suc t) p k ms ≡ merge_times t p k ns
unfolding merge_times
times_step t p k ms ns e = ap (λ (o : Option Decomposition). elim o [ none ↦ ms | some qs ↦ merge_times t p k qs ]) e

pub times_stay : (t : ℕ) (p : TransitionSystem) (k : ℕ) (ms : Decomposition) → merge_first p k ms ≡ none → merge_times t p k ms ≡ ms
unfolding merge_times
times_stay zero p k ms e = refl
times_stay (suc t) p k ms e = ap (λ (o : Option Decomposition). elim o [ none ↦ ms | some qs ↦ merge_times t p k qs ]) e

module _ (n : ℕ) (bars : ℕ → ℕ → Bool) where
  -- every place that is in no group as far as g is barred by g
  abbrev pub Full : List (List ℕ) → List ℕ → Type 0
  Full gs g = (x : ℕ) → x < n → T (ungrouped (gs ++ (g ∷ [])) x) → T (barred_by bars g x)

  -- the same of each of the groups
  abbrev pub Closed : List (List ℕ) → Type 0
  Closed gs = (c : ℕ) (h : List ℕ) → At gs c h → (x : ℕ) → x < n → c < place_in gs x → T (barred_by bars h x)

  pub closed_snoc : (gs : List (List ℕ)) (g : List ℕ) → Closed gs → Full gs g → Closed (gs ++ (g ∷ []))
  closed_snoc gs g k f c h a x l b = go (order c (length gs))
    where
      go : (c < length gs) ⊎ (length gs ≤ c) → T (barred_by bars h x)
      go (inl y) = k c h (left_at gs (g ∷ []) c h y a) x l (past_left gs (g ∷ []) x c y b)
      go (inr y) = last (at_beyond gs (g ∷ []) c h y a)
        where
          last : Memᴰ h (g ∷ []) → T (barred_by bars h x)
          last (Memᴰ.head e) = rw e (f x l (past_all (gs ++ (g ∷ [])) x (omega (arith, length-append gs (g ∷ []), y, b))))
          last (Memᴰ.tail z) = elim z [ ]

module _ (p : TransitionSystem) (b : Within p) (os front back : Decomposition) (m : Machine) (s : State p b os (front ++ (m ∷ back)))
    (bars : ℕ → ℕ → Bool)
    (says : (a c : ℕ) → a < length m.places → c < length m.places → T (bars a c) ↔ (Barred p front back m a c ⊎ Barred p front back m c a)) where
  abbrev Standing : List (List ℕ) → Type 0
  Standing gs = Stands p b os front back m s bars says gs

  -- a closed group is merged with none after it
  pub closed_refused : (gs hs : List (List ℕ)) → Standing (gs ++ hs) → Closed (length m.places) bars gs
      → (c d : ℕ) → c < length gs → d < length (gs ++ hs) → T (not (mergeable p (length front) (split_by front back m (gs ++ hs)) c d))
  unfolding barred_by
  closed_refused gs hs w k c d lc ld = go (order c d) (below_at gs c lc) (below_at (gs ++ hs) d ld)
    where
      go : (c < d) ⊎ (d ≤ c) → (g : List ℕ) × At gs c g → (h : List ℕ) × At (gs ++ hs) d h → T (not (mergeable p (length front) (split_by front back m (gs ++ hs)) c d))
      go (inr y) v u = not_T (mergeable p (length front) (split_by front back m (gs ++ hs)) c d) (λ t. omega (arith, y, (merge_can p b (length front) c d (split_by front back m (gs ++ hs)) t).0))
      go (inl y) (g, ag) (h, ah) =
          let x = group_some w.parts d h ah in
          let z = group_number w.parts d h x.0 ah x.1 in
          let v = exists_elim (λ a. bars a x.0) g (k c g ag x.0 (group_low w.parts d h x.0 ah x.1) (past_left gs hs x.0 c lc (omega (arith, z, y)))) in
          refused p b os front back m s bars says (gs ++ hs) w c d g h (at_left gs hs c g ag) ah v.0 x.0 (mem_elem v.0 g v.1) x.1 v.2

  -- these groups are places by now, and so are the other places, which rise
  pub record Stage (gs : List (List ℕ)) (rest : List ℕ) : Type 0 where
    pub stands : Standing (gs ++ map single rest)
    pub rising : Rising ◌<◌ rest

  abbrev test : List (List ℕ) → List ℕ → ℕ → Bool
  test gs g q = ungrouped (gs ++ (g ∷ [])) q && not (barred_by bars g q)

  -- the group g after closed groups, and the lowest place that it does not bar
  module _ (gs : List (List ℕ)) (g xs : List ℕ) (q : ℕ) (ys : List ℕ) (w : Stage (gs ++ (g ∷ [])) (xs ++ (q ∷ ys))) (k : Closed (length m.places) bars gs)
      (free : T (not (barred_by bars g q))) (before : (x : ℕ) → x < q → T (not (test gs g x))) where
    abbrev now : List (List ℕ)
    now = gs ++ (g ∷ (map single xs ++ (single q ∷ map single ys)))

    abbrev higher : ℕ
    higher = length (gs ++ (g ∷ map single xs))

    now_is : (gs ++ (g ∷ [])) ++ map single (xs ++ (q ∷ ys)) ≡ now
    now_is = append_assoc gs (g ∷ []) (map single (xs ++ (q ∷ ys))) ∙ ap (λ (l : List (List ℕ)). gs ++ (g ∷ l)) (map_append single xs (q ∷ ys))

    parted : (gs ++ (g ∷ map single xs)) ++ (single q ∷ map single ys) ≡ now
    parted = append_assoc gs (g ∷ map single xs) (single q ∷ map single ys)

    stands_now : Standing now
    stands_now = subst (Standing) now_is w.stands

    at_group : At now (length gs) g
    at_group = at_middle gs (map single xs ++ (single q ∷ map single ys)) g

    at_taken : At now higher (single q)
    at_taken = subst (λ (l : List (List ℕ)). At l higher (single q)) parted (at_middle (gs ++ (g ∷ map single xs)) (map single ys) (single q))

    lower : length gs < higher
    lower = omega (arith, length-append gs (g ∷ map single xs))

    unbarred : (a c : ℕ) → T (elem a g) → T (elem c (single q)) → T (not (bars a c))
    unfolding barred_by
    unbarred a c ta tc = go (elem_mem c (single q) tc)
      where
        go : Memᴰ c (single q) → T (not (bars a c))
        go (Memᴰ.head e) = subst (λ (z : ℕ). T (not (bars a z))) (sym e) (none_exists (λ (y : ℕ). bars y q) g free a (elem_mem a g ta))
        go (Memᴰ.tail z) = elim z [ ]

    -- a place that comes before q is barred
    passed : (x : ℕ) → Memᴰ x xs → T (barred_by bars g x)
    unfolding ungrouped
    passed x j =
        not_not (barred_by bars g x)
        (not_and (ungrouped (gs ++ (g ∷ [])) x) (not (barred_by bars g x)) (before x (rising_before xs q ys w.rising x j))
        (rest_out (gs ++ (g ∷ [])) (xs ++ (q ∷ ys)) w.stands.parts x (Memᴰ.append_left (q ∷ ys) j)))

    earlier : (d : ℕ) → length gs < d → d < higher → T (not (mergeable p (length front) (split_by front back m now) (length gs) d))
    unfolding barred_by
    earlier d l h = go (below_at (gs ++ (g ∷ map single xs)) d h)
      where
        go : (v : List ℕ) × At (gs ++ (g ∷ map single xs)) d v → T (not (mergeable p (length front) (split_by front back m now) (length gs) d))
        go (v, a) =
            one (map_mem single xs v
            (at_beyond (gs ++ (g ∷ [])) (map single xs) d v (omega (arith, length-append gs (g ∷ []), l))
            (subst (λ (z : List (List ℕ)). At z d v) (sym (append_assoc gs (g ∷ []) (map single xs))) a)))
          where
            one : (x : ℕ) × Memᴰ x xs × (v ≡ single x) → T (not (mergeable p (length front) (split_by front back m now) (length gs) d))
            one (x, j, e) =
                let y = exists_elim (λ (z : ℕ). bars z x) g (passed x j) in
                refused p b os front back m s bars says now stands_now (length gs) d g v at_group
                (subst (λ (z : List (List ℕ)). At z d v) parted (at_left (gs ++ (g ∷ map single xs)) (single q ∷ map single ys) d v a))
                y.0 x (mem_elem y.0 g y.1) (subst (λ (z : List ℕ). T (elem x z)) (sym e) (mem_elem x (single x) (Memᴰ.head refl))) y.2

    all_earlier : (c d : ℕ) → Before c d (length gs) higher → d < place_count (length front) (split_by front back m now) → T (not (mergeable p (length front) (split_by front back m now) c d))
    all_earlier c d (inl x) l = closed_refused gs (g ∷ (map single xs ++ (single q ∷ map single ys))) stands_now k c d x (subst (λ (z : ℕ). d < z) (count_split front back m now) l)
    all_earlier c d (inr x) l = go (order (length gs) d)
      where
        go : (length gs < d) ⊎ (d ≤ length gs) → T (not (mergeable p (length front) (split_by front back m now) c d))
        go (inl y) = subst (λ (z : ℕ). T (not (mergeable p (length front) (split_by front back m now) z d))) (sym x.0) (earlier d y x.1)
        go (inr y) = not_T (mergeable p (length front) (split_by front back m now) c d) (λ t. omega (arith, y, x.0, (merge_can p b (length front) c d (split_by front back m now) t).0))

    next_is : merge_places (length gs) higher now ≡ (gs ++ ((g ++ (q ∷ [])) ∷ [])) ++ map single (xs ++ ys)
    next_is =
        merge_seams gs g (map single xs) (single q) (map single ys)
        ∙ sym (append_assoc gs ((g ++ (q ∷ [])) ∷ []) (map single (xs ++ ys)) ∙ ap (λ (l : List (List ℕ)). gs ++ ((g ++ (q ∷ [])) ∷ l)) (map_append single xs ys))

    pub taken_stage : Stage (gs ++ ((g ++ (q ∷ [])) ∷ [])) (xs ++ ys)
    taken_stage =
        record {
          stands = subst (Standing) next_is (free_stands p b os front back m s bars says now stands_now (length gs) higher g (single q) lower at_group at_taken unbarred);
          rising = rising_without xs q ys w.rising;
        }

    pub taken_merge : merge_first p (length front) (split_by front back m ((gs ++ (g ∷ [])) ++ map single (xs ++ (q ∷ ys))))
        ≡ some (split_by front back m ((gs ++ ((g ++ (q ∷ [])) ∷ [])) ++ map single (xs ++ ys)))
    taken_merge =
        ap (λ (l : List (List ℕ)). merge_first p (length front) (split_by front back m l)) now_is
        ∙ first_is p (length front) (length gs) higher (split_by front back m now) lower
        (subst (λ (z : ℕ). higher < z) (sym (count_split front back m now)) (at_below now higher (single q) at_taken))
        (allowed p b os front back m s bars says now stands_now (length gs) higher g (single q) lower at_group at_taken unbarred) all_earlier
        ∙ ap some (merge_split front back m (length gs) higher now ∙ ap (split_by front back m) next_is)
