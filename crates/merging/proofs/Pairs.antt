-- Which two groups can be merged: those of which no place bars one of the other. And what the first pair that can be merged makes of the pass.
use Prim.Native.Nat.{ℕ, ◌<◌}
use native.Mathlib.Omega.{arith}
use mathlib.Core.Path.{◌≡◌, refl, sym, ◌∙◌, subst}
use mathlib.Core.Logic.{◌⊎◌, inl, inr, ◌↔◌}
use mathlib.Core.Bool.{Bool, not}
use mathlib.Core.List.{List, [], ◌∷◌, ◌++◌, Memᴰ}
use mathlib.Core.Option.{none, some}
use lib.Dec.{T}
use lib.ListN.{length}
use Rattle.model.specs.Lists.{At, is_some, elem, lowest}
use Rattle.model.specs.TransitionSystem.{TransitionSystem}
use Rattle.model.specs.Machine.{Machine, Decomposition, place_in, place_of, cover_refusal}
use Rattle.model.specs.Merging.{merge_places, merge_machine, merge_in, place_count, mergeable, partner, lower_place, merge_with, merge_lower, merge_first}
use Rattle.model.specs.Merged.{Before}
use Rattle.model.proofs.Laws.{not_T, contra, none_is_some, lowest_is, none_lowest}
use Rattle.model.proofs.Positions.{at_below, at_mem, mem_at, at_same}
use Rattle.model.proofs.Bounds.{Within, Listed}
use Rattle.model.proofs.Places.{Good}
use Rattle.model.proofs.Simulate.{covers_of}
use Rattle.model.proofs.Passed.{covers_none}
use Rattle.model.proofs.Coarser.{Coarser, CoarserAll, each, coarser_refl, coarser_trans}
use Rattle.model.proofs.MergeNumbers.{merged_places}
use Rattle.model.proofs.MergePlaces.{Origin, kept, union, origin, elem_left, elem_right, elem_either, merge_listed, merge_coarser}
use Rattle.model.proofs.Merging.{State, Settled, can_merge, merge_can, in_good, merge_all, merge_length}
use Rattle.merging.proofs.Middle.{mid_here, merge_mid, count_mid}
use Rattle.merging.proofs.Barring.{Barred, barred_low, covers_valid, valid_covers}
use Rattle.merging.proofs.Parting.{Parts, in_group, group_low, group_number, merge_parts}
use Rattle.merging.proofs.Joined.{joined, joined_place, joined_count, split_by, merge_split, count_split}

-- ---- one step of the pass

-- a pair that can be merged where none before it can: the next merge
pub first_is : (p : TransitionSystem) (k i j : ℕ) (ms : Decomposition) → i < j → j < place_count k ms → T (mergeable p k ms i j)
    → ((c d : ℕ) → Before c d i j → d < place_count k ms → T (not (mergeable p k ms c d))) → merge_first p k ms ≡ some (merge_in k i j ms)
unfolding merge_first merge_lower merge_with lower_place partner is_some
first_is p k i j ms h l t before = rw (lower, higher)
  where
    higher : lowest (mergeable p k ms i) (place_count k ms) ≡ some j
    higher = lowest_is (mergeable p k ms i) (place_count k ms) j l t (λ d x. before i d (inr (refl, x)) (omega arith))

    lower : lowest (λ c. is_some (lowest (mergeable p k ms c) (place_count k ms))) (place_count k ms) ≡ some i
    lower =
        lowest_is (λ c. is_some (lowest (mergeable p k ms c) (place_count k ms))) (place_count k ms) i (omega arith) (rw higher tt)
        (λ c x. none_is_some (lowest (mergeable p k ms c) (place_count k ms)) (none_lowest (mergeable p k ms c) (place_count k ms) (λ d y. before c d (inl x) y)))

-- no pair can be merged: the machine is done
pub settled_is : (p : TransitionSystem) (b : Within p) (k : ℕ) (ms : Decomposition) → Settled p b k ms → merge_first p k ms ≡ none
unfolding merge_first merge_lower lower_place partner is_some
settled_is p b k ms f =
    rw (none_lowest (λ c. is_some (lowest (mergeable p k ms c) (place_count k ms))) (place_count k ms)
    (λ c x. none_is_some (lowest (mergeable p k ms c) (place_count k ms)) (none_lowest (mergeable p k ms c) (place_count k ms) (λ d y. f c d y))))

coarser_mid : (p : TransitionSystem) (n m : Machine) (front back : Decomposition) → Coarser p n m → CoarserAll p (front ++ (n ∷ back)) (front ++ (m ∷ back))
coarser_mid p n m [] back f = each f (coarser_refl p back)
coarser_mid p n m (x ∷ front) back f = each (λ s u ls lu h. h) (coarser_mid p n m front back f)

-- a merge in the machine in the middle leaves what is kept from merge to merge
merge_state : (p : TransitionSystem) (b : Within p) (os front back : Decomposition) (m : Machine) (i j : ℕ) → i < j → j < length m.places
    → cover_refusal p (merge_in (length front) i j (front ++ (m ∷ back))) ≡ none → State p b os (front ++ (m ∷ back)) → State p b os (merge_in (length front) i j (front ++ (m ∷ back)))
merge_state p b os front back m i j h k c s =
    record {
      good = in_good p b (length front) i j (front ++ (m ∷ back)) h l s.good;
      listed = merge_all (Listed p) (length front) i j (front ++ (m ∷ back)) h l s.listed (λ v x. merge_listed p b i j v h x);
      covers = c;
      coarser =
          coarser_trans p (merge_in (length front) i j (front ++ (m ∷ back))) (front ++ (m ∷ back)) os
          (subst (λ (ms : Decomposition). CoarserAll p ms (front ++ (m ∷ back))) (sym (merge_mid i j front back m))
          (coarser_mid p (merge_machine i j m) m front back (merge_coarser p b i j m h k (s.good m (mid_here m front back)))))
          s.coarser;
      size = merge_length (length front) i j (front ++ (m ∷ back)) ∙ s.size;
    }
  where
    l : j < place_count (length front) (front ++ (m ∷ back))
    l = subst (λ (z : ℕ). j < z) (sym (count_mid front back m)) k

-- ---- groups of one machine's places
module _ (p : TransitionSystem) (b : Within p) (os front back : Decomposition) (m : Machine) (s : State p b os (front ++ (m ∷ back)))
    (bars : ℕ → ℕ → Bool)
    (says : (a c : ℕ) → a < length m.places → c < length m.places → T (bars a c) ↔ (Barred p front back m a c ⊎ Barred p front back m c a)) where
  -- the split in which the groups are the places, and what is known of both
  pub record Stands (gs : List (List ℕ)) : Type 0 where
    pub state : State p b os (split_by front back m gs)
    pub parts : Parts (length m.places) gs

  pub good_was : Good p m
  good_was = s.good m (mid_here m front back)

  pub stands_place : (gs : List (List ℕ)) → Stands gs → (u : ℕ) → u < p.states → place_of (joined m gs) u ≡ place_in gs (place_of m u)
  stands_place gs w = joined_place p m gs good_was (w.state.good (joined m gs) (mid_here (joined m gs) front back)) w.parts

  module _ (gs : List (List ℕ)) (w : Stands gs) where
    -- no two places of one group bar each other
    valid : (a c : ℕ) → place_in gs a ≡ place_in gs c → ¬ Barred p front back m a c
    valid = covers_valid p b m (joined m gs) good_was (place_in gs) (stands_place gs w) front back (covers_of p (split_by front back m gs) w.state.covers)

    -- groups g and h, numbers i and j
    module _ (i j : ℕ) (g h : List ℕ) (l : i < j) (ai : At gs i g) (aj : At gs j h) where
      pub low : j < length gs
      low = at_below gs j h aj

      both_parts : Parts (length m.places) (merge_places i j gs)
      both_parts = merge_parts w.parts i j l low

      both_good : Good p (joined m (merge_places i j gs))
      both_good =
          subst (λ (ms : Decomposition). (v : Machine) → Memᴰ v ms → Good p v) (merge_split front back m i j gs)
          (in_good p b (length front) i j (split_by front back m gs) l (subst (λ (z : ℕ). j < z) (sym (count_split front back m gs)) low) w.state.good)
          (joined m (merge_places i j gs)) (mid_here (joined m (merge_places i j gs)) front back)

      both_place : (u : ℕ) → u < p.states → place_of (joined m (merge_places i j gs)) u ≡ place_in (merge_places i j gs) (place_of m u)
      both_place = joined_place p m (merge_places i j gs) good_was both_good both_parts

      both_at : At (merge_places i j gs) i (g ++ h)
      unfolding merge_machine
      both_at = (merged_places i j (record { places = gs }) l low).both g h ai aj

      -- a place of each that bar each other: they are not merged
      pub barred_covers : (a c : ℕ) → T (elem a g) → T (elem c h) → T (bars a c) → ¬ (cover_refusal p (merge_in (length front) i j (split_by front back m gs)) ≡ none)
      barred_covers a c ta tc t q = go ((says a c (group_low w.parts i g a ai ta) (group_low w.parts j h c aj tc)).0 t)
        where
          apart : (x y : ℕ) → place_in (merge_places i j gs) x ≡ place_in (merge_places i j gs) y → ¬ Barred p front back m x y
          apart =
              covers_valid p b m (joined m (merge_places i j gs)) good_was (place_in (merge_places i j gs)) both_place front back
              (covers_of p (split_by front back m (merge_places i j gs)) (subst (λ (ms : Decomposition). cover_refusal p ms ≡ none) (merge_split front back m i j gs) q))

          one : place_in (merge_places i j gs) a ≡ place_in (merge_places i j gs) c
          one = group_number both_parts i (g ++ h) a both_at (elem_left a g h ta) ∙ sym (group_number both_parts i (g ++ h) c both_at (elem_right c g h tc))

          go : Barred p front back m a c ⊎ Barred p front back m c a → ⊥
          go (inl x) = apart a c one x
          go (inr x) = apart c a (sym one) x

      -- no such places: they are
      module _ (free : (a c : ℕ) → T (elem a g) → T (elem c h) → T (not (bars a c))) where
        both_valid : (a c : ℕ) → place_in (merge_places i j gs) a ≡ place_in (merge_places i j gs) c → ¬ Barred p front back m a c
        both_valid a c e x = go (in_group both_parts a (barred_low p b m good_was front back a c x).0) (in_group both_parts c (barred_low p b m good_was front back a c x).1)
          where
            together : (d : ℕ) (r : List ℕ) → At gs d r → T (elem a r) → T (elem c r) → ⊥
            together d r at ta tc = valid a c (group_number w.parts d r a at ta ∙ sym (group_number w.parts d r c at tc)) x

            pair : T (elem a g) ⊎ T (elem a h) → T (elem c g) ⊎ T (elem c h) → ⊥
            pair (inl y) (inl z) = together i g ai y z
            pair (inr y) (inr z) = together j h aj y z
            pair (inl y) (inr z) = contra (bars a c) (free a c y z) ((says a c (group_low w.parts i g a ai y) (group_low w.parts j h c aj z)).1 (inl x))
            pair (inr y) (inl z) = contra (bars c a) (free c a z y) ((says c a (group_low w.parts i g c ai z) (group_low w.parts j h a aj y)).1 (inr x))

            from : (r : List ℕ) → T (elem a r) → T (elem c r) → Origin i j gs r → ⊥
            from r ta tc (kept k) = let v = mem_at gs r k in together v.0 r v.1 ta tc
            from r ta tc (union y z ay az q) = pair (elem_either a g h (subst (λ (v : List ℕ). T (elem a v)) q2 ta)) (elem_either c g h (subst (λ (v : List ℕ). T (elem c v)) q2 tc))
              where
                gy : y ≡ g
                gy = at_same gs i y g ay ai

                hz : z ≡ h
                hz = at_same gs j z h az aj

                q2 : r ≡ g ++ h
                q2 = cc

            go : (r : List ℕ) × At (merge_places i j gs) (place_in (merge_places i j gs) a) r × T (elem a r)
                → (r : List ℕ) × At (merge_places i j gs) (place_in (merge_places i j gs) c) r × T (elem c r) → ⊥
            go (r, ar, ta) (v, av, tc) =
                from r ta (subst (λ (z : List ℕ). T (elem c z)) (sym same) tc) (origin i j gs l low r (at_mem (merge_places i j gs) (place_in (merge_places i j gs) a) r ar))
              where
                same : r ≡ v
                same = at_same (merge_places i j gs) (place_in (merge_places i j gs) a) r v ar (subst (λ (k : ℕ). At (merge_places i j gs) k v) (sym e) av)

        pub free_covers : cover_refusal p (merge_in (length front) i j (split_by front back m gs)) ≡ none
        free_covers =
            subst (λ (ms : Decomposition). cover_refusal p ms ≡ none) (sym (merge_split front back m i j gs))
            (covers_none p (split_by front back m (merge_places i j gs))
            (valid_covers p b m (joined m (merge_places i j gs)) good_was (place_in (merge_places i j gs)) both_place front back (covers_of p (front ++ (m ∷ back)) s.covers) both_valid))

        pub free_stands : Stands (merge_places i j gs)
        free_stands =
            record {
              state =
                  subst (State p b os) (merge_split front back m i j gs)
                  (merge_state p b os front back (joined m gs) i j l (subst (λ (z : ℕ). j < z) (sym (joined_count m gs)) low) free_covers w.state);
              parts = both_parts;
            }

    -- the same as tests
    pub refused : (i j : ℕ) (g h : List ℕ) → At gs i g → At gs j h → (a c : ℕ) → T (elem a g) → T (elem c h) → T (bars a c)
        → T (not (mergeable p (length front) (split_by front back m gs) i j))
    refused i j g h ai aj a c ta tc t =
        not_T (mergeable p (length front) (split_by front back m gs) i j) (λ y.
        let v = merge_can p b (length front) i j (split_by front back m gs) y in barred_covers i j g h v.0 ai aj a c ta tc t v.1)

    pub allowed : (i j : ℕ) (g h : List ℕ) → i < j → At gs i g → At gs j h → ((a c : ℕ) → T (elem a g) → T (elem c h) → T (not (bars a c)))
        → T (mergeable p (length front) (split_by front back m gs) i j)
    allowed i j g h l ai aj f = can_merge p b (length front) i j (split_by front back m gs) l (free_covers i j g h l ai aj f)
