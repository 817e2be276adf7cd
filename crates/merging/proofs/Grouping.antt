-- The pass over one machine leaves what the groups say: which places bar each other is asked once, of the machine as it was, and the greedy groups are the places at the end.
use Prim.Native.Nat.{ℕ, zero, suc, ◌+◌, ◌<◌, ◌≤◌}
use native.Mathlib.Omega.{arith}
use mathlib.Core.Path.{◌≡◌, refl, ap, sym, ◌∙◌, subst}
use mathlib.Core.Logic.{◌⊎◌, inl, inr, ◌↔◌}
use mathlib.Core.Bool.{Bool, not, ◌&&◌}
use mathlib.Core.List.{List, [], ◌∷◌, ◌++◌, map, append_assoc, append-nil, Memᴰ}
use mathlib.Core.Option.{none, some, none-ne-some}
use lib.Dec.{T}
use lib.ListN.{length, length-append}
use Rattle.model.specs.Lists.{lowest, numbers}
use Rattle.model.specs.TransitionSystem.{TransitionSystem}
use Rattle.model.specs.Machine.{Machine, Decomposition, place_in, place_of, move}
use Rattle.model.specs.Merging.{mergeable, merge_times}
use Rattle.model.proofs.Laws.{not_T, not_not, not_and, and_l, and_r, order, Lowest, found, absent, lowest_view, lowest_is, none_lowest}
use Rattle.model.proofs.ListLaws.{mem_split}
use Rattle.model.proofs.Positions.{length_numbers}
use Rattle.model.proofs.Bounds.{Within}
use Rattle.model.proofs.Merging.{State, merge_can}
use Rattle.merging.specs.Groups.{ungrouped, barred_by, taken, grown, grouped_from, grouped, renumbered}
use Rattle.merging.proofs.Barring.{Barred, renumbered_move}
use Rattle.merging.proofs.Parting.{Parts, single, single_parts, rest_low, rest_out, out_rest}
use Rattle.merging.proofs.Joined.{joined, joined_count, joined_single, split_by, count_split}
use Rattle.merging.proofs.Rising.{rising_numbers, mem_length}
use Rattle.merging.proofs.Pairs.{Stands, settled_is, good_was, stands_place}
use Rattle.merging.proofs.Growing.{times_step, times_stay, Full, Closed, closed_snoc, closed_refused, Stage, taken_stage, taken_merge}

module _ (p : TransitionSystem) (b : Within p) (os front back : Decomposition) (m : Machine) (s : State p b os (front ++ (m ∷ back)))
    (bars : ℕ → ℕ → Bool)
    (says : (a c : ℕ) → a < length m.places → c < length m.places → T (bars a c) ↔ (Barred p front back m a c ⊎ Barred p front back m c a)) where
  abbrev Standing : List (List ℕ) → Type 0
  Standing gs = Stands p b os front back m s bars says gs

  abbrev Staged : List (List ℕ) → List ℕ → Type 0
  Staged gs rest = Stage p b os front back m s bars says gs rest

  -- how the pass goes on from these groups, with t merges at most
  abbrev passes : ℕ → List (List ℕ) → Decomposition
  passes t gs = merge_times t p (length front) (split_by front back m gs)

  -- ---- one group
  -- g has become h
  record Grows (h : List ℕ) (t : ℕ) (gs : List (List ℕ)) (g rest : List ℕ) : Type 0 where
    left : List ℕ
    fuel : ℕ
    stage : Staged (gs ++ (h ∷ [])) left
    full : Full (length m.places) bars gs h
    same : passes t ((gs ++ (g ∷ [])) ++ map single rest) ≡ passes fuel ((gs ++ (h ∷ [])) ++ map single left)
    enough : length left ≤ fuel
    fewer : length left ≤ length rest

  grows : (f t : ℕ) (gs : List (List ℕ)) (g rest : List ℕ) → Staged (gs ++ (g ∷ [])) rest → Closed (length m.places) bars gs
      → length rest ≤ f → length rest ≤ t → Grows (grown f bars (length m.places) gs g) t gs g rest
  unfolding grown taken ungrouped
  grows zero t gs g rest w k lf lt =
      record {
        left = rest;
        fuel = t;
        stage = w;
        full = λ x l o. absurd (omega (arith, lf, mem_length rest x (out_rest (gs ++ (g ∷ [])) rest w.stands.parts x l o)));
        same = refl;
        enough = lt;
        fewer = omega arith;
      }
  grows (suc f) t gs g rest w k lf lt = go (lowest_view (λ (q : ℕ). ungrouped (gs ++ (g ∷ [])) q && not (barred_by bars g q)) (length m.places)) (grows f)
    where
      go : Lowest (λ (q : ℕ). ungrouped (gs ++ (g ∷ [])) q && not (barred_by bars g q)) (length m.places)
          → ((t : ℕ) (gs : List (List ℕ)) (g rest : List ℕ) → Staged (gs ++ (g ∷ [])) rest → Closed (length m.places) bars gs
          → length rest ≤ f → length rest ≤ t → Grows (grown f bars (length m.places) gs g) t gs g rest)
          → Grows (elim (taken bars (length m.places) gs g) [ none ↦ g | some q ↦ grown f bars (length m.places) gs (g ++ (q ∷ [])) ]) t gs g rest
      go (absent e h) ih =
          rw e (record {
            left = rest;
            fuel = t;
            stage = w;
            full = λ x l o. not_not (barred_by bars g x) (not_and (ungrouped (gs ++ (g ∷ [])) x) (not (barred_by bars g x)) (h x l) o);
            same = refl;
            enough = lt;
            fewer = omega arith;
          })
      go (found q e l x before) ih =
          rw e (at (mem_split rest q (out_rest (gs ++ (g ∷ [])) rest w.stands.parts q l (and_l (ungrouped (gs ++ (g ∷ [])) q) (not (barred_by bars g q)) x))) t lt)
        where
          at : (xs : List ℕ) × (ys : List ℕ) × (rest ≡ xs ++ (q ∷ ys)) → (t : ℕ) → length rest ≤ t → Grows (grown f bars (length m.places) gs (g ++ (q ∷ []))) t gs g rest
          at (xs, ys, r) zero u = absurd (omega (arith, ap (λ (z : List ℕ). length z) r, length-append xs (q ∷ ys), u))
          at (xs, ys, r) (suc t) u =
              more (ih t gs (g ++ (q ∷ [])) (xs ++ ys) (taken_stage p b os front back m s bars says gs g xs q ys w2 k free before) k
              (omega (arith, size, lf)) (omega (arith, size, u)))
            where
              w2 : Staged (gs ++ (g ∷ [])) (xs ++ (q ∷ ys))
              w2 = subst (Staged (gs ++ (g ∷ []))) r w

              free : T (not (barred_by bars g q))
              free = and_r (ungrouped (gs ++ (g ∷ [])) q) (not (barred_by bars g q)) x

              size : length rest ≡ suc (length (xs ++ ys))
              size = omega (arith, ap (λ (z : List ℕ). length z) r, length-append xs (q ∷ ys), length-append xs ys)

              step : passes (suc t) ((gs ++ (g ∷ [])) ++ map single rest) ≡ passes t ((gs ++ ((g ++ (q ∷ [])) ∷ [])) ++ map single (xs ++ ys))
              step =
                  ap (λ (z : List ℕ). passes (suc t) ((gs ++ (g ∷ [])) ++ map single z)) r
                  ∙ times_step t p (length front) (split_by front back m ((gs ++ (g ∷ [])) ++ map single (xs ++ (q ∷ ys))))
                  (split_by front back m ((gs ++ ((g ++ (q ∷ [])) ∷ [])) ++ map single (xs ++ ys)))
                  (taken_merge p b os front back m s bars says gs g xs q ys w2 k free before)

              more : {h : List ℕ} → Grows h t gs (g ++ (q ∷ [])) (xs ++ ys) → Grows h (suc t) gs g rest
              more v =
                  record {
                    left = v.left;
                    fuel = v.fuel;
                    stage = v.stage;
                    full = v.full;
                    same = step ∙ v.same;
                    enough = v.enough;
                    fewer = omega (arith, size, v.fewer);
                  }

  -- ---- all groups
  -- the pass from gs with t merges at most leaves hs
  record Ends (hs : List (List ℕ)) (t : ℕ) (gs : List (List ℕ)) (rest : List ℕ) : Type 0 where
    stands : Standing hs
    same : passes t (gs ++ map single rest) ≡ split_by front back m hs
    size : length hs ≤ length gs + length rest

  ends : (t : ℕ) (gs : List (List ℕ)) → Standing (gs ++ []) → Closed (length m.places) bars gs → Ends gs t gs []
  ends t gs w k =
      record {
        stands = subst (Standing) (append-nil gs) w;
        same =
            times_stay t p (length front) (split_by front back m (gs ++ []))
            (settled_is p b (length front) (split_by front back m (gs ++ [])) (λ c d l. settled c d (subst (λ (z : ℕ). d < z) (count_split front back m (gs ++ [])) l)))
            ∙ ap (split_by front back m) (append-nil gs);
        size = omega arith;
      }
    where
      settled : (c d : ℕ) → d < length (gs ++ []) → T (not (mergeable p (length front) (split_by front back m (gs ++ [])) c d))
      settled c d l = go (order c (length gs))
        where
          go : (c < length gs) ⊎ (length gs ≤ c) → T (not (mergeable p (length front) (split_by front back m (gs ++ [])) c d))
          go (inl x) = closed_refused p b os front back m s bars says gs [] w k c d x l
          go (inr x) =
              not_T (mergeable p (length front) (split_by front back m (gs ++ [])) c d)
              (λ y. omega (arith, x, l, length-append gs [], (merge_can p b (length front) c d (split_by front back m (gs ++ [])) y).0))

  -- the lowest of the places that are left begins a group
  begins : (gs : List (List ℕ)) (q : ℕ) (rest : List ℕ) → Staged gs (q ∷ rest) → lowest (ungrouped gs) (length m.places) ≡ some q
  unfolding ungrouped
  begins gs q rest w =
      lowest_is (ungrouped gs) (length m.places) q low (rest_out gs (q ∷ rest) w.stands.parts q (Memᴰ.head refl))
      (λ x l. not_T (ungrouped gs x) (λ o. below x l (out_rest gs (q ∷ rest) w.stands.parts x (omega (arith, l, low)) o)))
    where
      low : q < length m.places
      low = rest_low gs (q ∷ rest) w.stands.parts q (Memᴰ.head refl)

      below : (x : ℕ) → x < q → Memᴰ x (q ∷ rest) → ⊥
      below x l (Memᴰ.head e) = omega (arith, e, l)
      below x l (Memᴰ.tail k) = omega (arith, l, w.rising.0 x k)

  none_begins : (gs : List (List ℕ)) → Staged gs [] → lowest (ungrouped gs) (length m.places) ≡ none
  unfolding ungrouped
  none_begins gs w = none_lowest (ungrouped gs) (length m.places) (λ x l. not_T (ungrouped gs x) (λ o. elim (out_rest gs [] w.stands.parts x l o) [ ]))

  groups : (f t : ℕ) (gs : List (List ℕ)) (rest : List ℕ) → Staged gs rest → Closed (length m.places) bars gs
      → length rest ≤ f → length rest ≤ t → length rest ≤ length m.places → Ends (grouped_from f bars (length m.places) gs) t gs rest
  unfolding grouped_from
  groups zero t gs [] w k lf lt ln = ends t gs w.stands k
  groups zero t gs (q ∷ rest) w k lf lt ln = absurd (omega (arith, lf))
  groups (suc f) t gs [] w k lf lt ln = rw (none_begins gs w, grouped_from) (ends t gs w.stands k)
  groups (suc f) t gs (q ∷ rest) w k lf lt ln =
      rw (begins gs q rest w, grouped_from) (go (grows (length m.places) t gs (single q) rest begun k (omega (arith, ln)) (omega (arith, lt))) (groups f))
    where
      same_list : (gs ++ (single q ∷ [])) ++ map single rest ≡ gs ++ map single (q ∷ rest)
      same_list = append_assoc gs (single q ∷ []) (map single rest)

      begun : Staged (gs ++ (single q ∷ [])) rest
      begun = record { stands = subst (Standing) (sym same_list) w.stands; rising = w.rising.1 }

      go : {h : List ℕ} → Grows h t gs (single q) rest
          → ((t : ℕ) (gs : List (List ℕ)) (rest : List ℕ) → Staged gs rest → Closed (length m.places) bars gs
          → length rest ≤ f → length rest ≤ t → length rest ≤ length m.places → Ends (grouped_from f bars (length m.places) gs) t gs rest)
          → Ends (grouped_from f bars (length m.places) (gs ++ (h ∷ []))) t gs (q ∷ rest)
      go {h} v ih = more (ih v.fuel (gs ++ (h ∷ [])) v.left v.stage (closed_snoc (length m.places) bars gs h k v.full)
          (omega (arith, v.fewer, lf)) v.enough (omega (arith, v.fewer, ln)))
        where
          more : {hs : List (List ℕ)} → Ends hs v.fuel (gs ++ (h ∷ [])) v.left → Ends hs t gs (q ∷ rest)
          more e =
              record {
                stands = e.stands;
                same = ap (passes t) (sym same_list) ∙ v.same ∙ e.same;
                size = omega (arith, e.size, v.fewer, length-append gs (h ∷ []));
              }

  -- ---- the whole pass over the machine
  start : Staged [] (numbers (length m.places))
  start =
      record {
        stands =
            record {
              state = subst (λ (n : Machine). State p b os (front ++ (n ∷ back))) (sym (joined_single m)) s;
              parts = single_parts (length m.places);
            };
        rising = rising_numbers (length m.places);
      }

  whole : Ends (grouped bars (length m.places)) (length m.places) [] (numbers (length m.places))
  unfolding grouped
  whole =
      let l : length (numbers (length m.places)) ≤ length m.places = omega (arith, length_numbers (length m.places)) in
      groups (length m.places) (length m.places) [] (numbers (length m.places)) start (λ c h a. absurd (none-ne-some h a)) l l l

  pub machine_merged : merge_times (length m.places) p (length front) (front ++ (m ∷ back)) ≡ front ++ (joined m (grouped bars (length m.places)) ∷ back)
  machine_merged = ap (λ (n : Machine). merge_times (length m.places) p (length front) (front ++ (n ∷ back))) (sym (joined_single m)) ∙ whole.same

  pub state_after : State p b os (front ++ (joined m (grouped bars (length m.places)) ∷ back))
  state_after = whole.stands.state

  pub place_after : (u : ℕ) → u < p.states → place_of (joined m (grouped bars (length m.places))) u ≡ place_in (grouped bars (length m.places)) (place_of m u)
  place_after = stands_place p b os front back m s bars says (grouped bars (length m.places)) whole.stands

  pub move_after : (e : ℕ) → move p (joined m (grouped bars (length m.places))) e ≡ renumbered (place_in (grouped bars (length m.places))) (move p m e)
  move_after =
      renumbered_move p b m (joined m (grouped bars (length m.places))) (good_was p b os front back m s bars says) (place_in (grouped bars (length m.places))) place_after

  pub count_after : length (joined m (grouped bars (length m.places))).places ≡ length (grouped bars (length m.places))
  count_after = joined_count m (grouped bars (length m.places))

  pub at_most : length (grouped bars (length m.places)) ≤ length m.places
  at_most = omega (arith, whole.size, length_numbers (length m.places))

  -- the groups have each place just once, and none is empty
  pub parts_after : Parts (length m.places) (grouped bars (length m.places))
  parts_after = whole.stands.parts
