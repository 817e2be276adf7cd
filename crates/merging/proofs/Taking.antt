-- A group as it grows: what each place that it takes makes of it, and when it is done.
use Prim.Native.Nat.{ℕ, zero, suc, ◌<◌, ◌≤◌}
use native.Mathlib.Decide.{ℕ_discrete}
use native.Mathlib.Omega.{arith}
use mathlib.Core.Path.{◌≡◌, refl, ap, sym, ◌∙◌}
use mathlib.Core.Logic.{◌⊎◌, inl, inr}
use mathlib.Core.Bool.{Bool, true, false, not, cond, ◌&&◌, ◌||◌, or-true, or-false, and-false}
use mathlib.Core.List.{List, [], ◌∷◌, ◌++◌, flatten, append-nil}
use mathlib.Core.Option.{none, some}
use borrow.Author.Tests.{lt-ltb, eq-eqb, ne_eqb}
use lib.Dec.{T, eqb, eqb→eq, ltb, ltb→lt}
use lib.ListN.{length, set}
use lib.Seq.{get_or-set_same, get_or-set_other}
use Rattle.model.specs.Lists.{exists, elem}
use Rattle.model.proofs.Laws.{and_l, or_e, Lowest, found, absent, lowest_view, lowest_is, none_lowest}
use Rattle.model.proofs.ListLaws.{exists_append}
use Rattle.rows.specs.Told.{entry}
use Rattle.merging.proofs.Parting.{flatten_append}
use Rattle.merging.specs.Groups.{ungrouped, barred_by, taken, grown}
use Rattle.transition_system.proofs.Counting.{count_below, fewer, most}

-- ---- one place more
pub elem_more : (q x : ℕ) (g : List ℕ) → elem q (g ++ (x ∷ [])) ≡ (elem q g || eqb q x)
unfolding elem exists
elem_more q x g = exists_append (eqb q) g (x ∷ []) ∙ rw (or-false (eqb q x))

barred_more : (bars : ℕ → ℕ → Bool) (q x : ℕ) (g : List ℕ) → barred_by bars (g ++ (x ∷ [])) q ≡ (barred_by bars g q || bars x q)
unfolding barred_by exists
barred_more bars q x g = exists_append (λ a. bars a q) g (x ∷ []) ∙ rw (or-false (bars x q))

flatten_more : (gs : List (List ℕ)) (g : List ℕ) → flatten (gs ++ (g ∷ [])) ≡ flatten gs ++ g
unfolding flatten
flatten_more gs g = flatten_append gs (g ∷ []) ∙ ap (λ (l : List ℕ). flatten gs ++ l) (append-nil g)

-- the places of one group more
pub grouped_more : (gs : List (List ℕ)) (g : List ℕ) (q : ℕ) → elem q (flatten (gs ++ (g ∷ []))) ≡ (elem q (flatten gs) || elem q g)
unfolding elem
grouped_more gs g q = ap (exists (eqb q)) (flatten_more gs g) ∙ exists_append (eqb q) (flatten gs) g

-- a place in none of the groups, and not in a further one
pub ungrouped_more : (gs : List (List ℕ)) (g : List ℕ) (q : ℕ) → ungrouped (gs ++ (g ∷ [])) q ≡ (ungrouped gs q && not (elem q g))
unfolding ungrouped
ungrouped_more gs g q = ap not (grouped_more gs g q) ∙ at (elem q (flatten gs)) (elem q g)
  where
    at : (a b : Bool) → not (a || b) ≡ (not a && not b)
    at true b = refl
    at false b = refl

-- the last group takes x
pub last_more : (n : ℕ) (gs : List (List ℕ)) (g : List ℕ) (x q : ℕ)
    → (ltb q n && ungrouped (gs ++ ((g ++ (x ∷ [])) ∷ [])) q) ≡ ((ltb q n && ungrouped (gs ++ (g ∷ [])) q) && not (eqb q x))
last_more n gs g x q =
    rw (ungrouped_more gs (g ++ (x ∷ [])) q, ungrouped_more gs g q, elem_more q x g) (at (ltb q n) (ungrouped gs q) (elem q g) (eqb q x))
  where
    at : (a b c d : Bool) → (a && (b && not (c || d))) ≡ ((a && (b && not c)) && not d)
    at false b c d = refl
    at true false c d = refl
    at true true true d = refl
    at true true false d = refl

-- ---- what a group takes
module _ (bars : ℕ → ℕ → Bool) (n : ℕ) (gs : List (List ℕ)) (g : List ℕ) where
  grown_none : (k : ℕ) → taken bars n gs g ≡ none → grown k bars n gs g ≡ g
  unfolding grown
  grown_none zero e = refl
  grown_none (suc k) e = rw (e, grown)

  grown_some : (k q : ℕ) → taken bars n gs g ≡ some q → grown (suc k) bars n gs g ≡ grown k bars n gs (g ++ (q ∷ []))
  unfolding grown
  grown_some k q e = rw (e, grown)

  data Takes : Type 0 where
    one : (q : ℕ) → taken bars n gs g ≡ some q → T (ungrouped (gs ++ (g ∷ [])) q) → Takes
    nothing : taken bars n gs g ≡ none → Takes

  takes_view : Takes
  unfolding taken
  takes_view = go (lowest_view (λ x. ungrouped (gs ++ (g ∷ [])) x && not (barred_by bars g x)) n)
    where
      go : Lowest (λ x. ungrouped (gs ++ (g ∷ [])) x && not (barred_by bars g x)) n → Takes
      go (found x e l u b) = one x e (and_l (ungrouped (gs ++ (g ∷ [])) x) (not (barred_by bars g x)) u)
      go (absent e b) = nothing e

-- the places of a grown group were in no group before
pub grown_ungrouped :
    (k : ℕ) (bars : ℕ → ℕ → Bool) (n : ℕ) (gs : List (List ℕ)) (g : List ℕ) → ((q : ℕ) → T (elem q g) → T (ungrouped gs q))
    → (q : ℕ) → T (elem q (grown k bars n gs g)) → T (ungrouped gs q)
unfolding grown
grown_ungrouped zero bars n gs g h q t = h q t
grown_ungrouped (suc k) bars n gs g h q t = go (takes_view bars n gs g) (λ g2. grown_ungrouped k bars n gs g2)
  where
    go : Takes bars n gs g → ((g2 : List ℕ) → ((x : ℕ) → T (elem x g2) → T (ungrouped gs x)) → (x : ℕ) → T (elem x (grown k bars n gs g2)) → T (ungrouped gs x))
        → T (ungrouped gs q)
    go (nothing e) ih = h q (rw (grown_none bars n gs g (suc k) e) at t)
    go (one x e u) ih = ih (g ++ (x ∷ [])) at q (rw (grown_some bars n gs g k x e) at t)
      where
        at : (y : ℕ) → T (elem y (g ++ (x ∷ []))) → T (ungrouped gs y)
        at y s = either (or_e (elem y g) (eqb y x) (rw (elem_more y x g) at s))
          where
            either : T (elem y g) ⊎ T (eqb y x) → T (ungrouped gs y)
            either (inl v) = h y v
            either (inr v) = rw (eqb→eq y x v) (and_l (ungrouped gs x) (not (elem x g)) (rw (ungrouped_more gs g x) at u))

-- ---- the group as far as it is grown, with tests for the places in no group and for those of them that it may take, and the row with its number
pub record Grows (bars : ℕ → ℕ → Bool) (n : ℕ) (gs : List (List ℕ)) (first group : ℕ) (old : List ℕ) (rest free : ℕ → Bool) (new : List ℕ) : Type 0 where
  pub places : List ℕ
  pub fuel : ℕ
  pub grows : grown n bars n gs (first ∷ []) ≡ grown fuel bars n gs places
  pub rests : (q : ℕ) → rest q ≡ (ltb q n && ungrouped (gs ++ (places ∷ [])) q)
  pub frees : (q : ℕ) → free q ≡ (rest q && not (barred_by bars places q))
  pub numbers : (q : ℕ) → q < 64 → entry new q ≡ cond (elem q places) group (entry old q)
  pub lasts : count_below rest n ≤ fuel

module _ {bars : ℕ → ℕ → Bool} {n : ℕ} {gs : List (List ℕ)} {first group : ℕ} {old : List ℕ} where
  pub grow_start :
      {left free : ℕ → Bool} {new : List ℕ} → first < 64 → length old ≡ 64 → new ≡ set old first group
      → ((q : ℕ) → left q ≡ (ltb q n && ungrouped (gs ++ ((first ∷ []) ∷ [])) q)) → ((q : ℕ) → free q ≡ (left q && not (bars first q)))
      → Grows bars n gs first group old left free new
  unfolding barred_by elem exists
  grow_start {left} {free} {new} l size e h f =
      record {
        places = first ∷ [];
        fuel = n;
        grows = refl;
        rests = h;
        frees = λ q. f q ∙ rw (or-false (bars first q));
        numbers = λ q b. rw e (at q (ℕ_discrete q first));
        lasts = most left n;
      }
    where
      at : (q : ℕ) → Dec (q ≡ first) → entry (set old first group) q ≡ cond (eqb q first || false) group (entry old q)
      at q (yes p) = rw (p, eq-eqb first first refl) (get_or-set_same old first group 0 (omega arith))
      at q (no p) = rw (ne_eqb q first p) (get_or-set_other old first q group 0 p)

  module _ {rest free : ℕ → Bool} {new : List ℕ} (w : Grows bars n gs first group old rest free new) where
    -- which places it may take
    may : (q : ℕ) → q < n → free q ≡ (ungrouped (gs ++ (w.places ∷ [])) q && not (barred_by bars w.places q))
    may q l = w.frees q ∙ rw (w.rests q, lt-ltb q n l)

    free_rest : (q : ℕ) → T (free q) → T (rest q)
    free_rest q t = and_l (rest q) (not (barred_by bars w.places q)) (rw (w.frees q) at t)

    rest_below : (q : ℕ) → T (rest q) → q < n
    rest_below q t = ltb→lt q n (and_l (ltb q n) (ungrouped (gs ++ (w.places ∷ [])) q) (rw (w.rests q) at t))

    -- it takes none: it is done
    pub grow_end : ((q : ℕ) → q < n → T (not (free q)))
        → ((q : ℕ) → rest q ≡ (ltb q n && ungrouped (gs ++ (grown n bars n gs (first ∷ []) ∷ [])) q))
        × ((q : ℕ) → q < 64 → entry new q ≡ cond (elem q (grown n bars n gs (first ∷ []))) group (entry old q))
    unfolding taken
    grow_end h =
        let e : grown n bars n gs (first ∷ []) ≡ w.places =
        w.grows ∙ grown_none bars n gs w.places w.fuel
        (none_lowest (λ q. ungrouped (gs ++ (w.places ∷ [])) q && not (barred_by bars w.places q)) n (λ q l. rw (← may q l) (h q l))) in
        rw e (w.rests, w.numbers)

    -- it takes q, the lowest that it may
    module _ (q : ℕ) {rest2 : ℕ → Bool} (t : T (free q)) (before : (j : ℕ) → j < q → T (not (free j))) (r : (i : ℕ) → rest2 i ≡ (rest i && not (eqb i q))) where
      takes_it : taken bars n gs w.places ≡ some q
      unfolding taken
      takes_it =
          let l : q < n = rest_below q (free_rest q t) in
          lowest_is (λ x. ungrouped (gs ++ (w.places ∷ [])) x && not (barred_by bars w.places x)) n q l (rw (← may q l) t)
          (λ j b. rw (← may j (omega arith)) (before j b))

      fewer_left : (m : ℕ) → q < m → count_below rest2 m < count_below rest m
      fewer_left m l =
          fewer rest2 rest (λ i x. and_l (rest i) (not (eqb i q)) (rw (r i) at x)) m q l
          (rw (r q, eq-eqb q q refl, and-false (rest q)) tt) (free_rest q t)

      pub grow_more : {free2 : ℕ → Bool} → n ≤ 64 → length new ≡ 64 → ((i : ℕ) → free2 i ≡ ((free i && not (eqb i q)) && not (bars q i)))
          → Grows bars n gs first group old rest2 free2 (set new q group)
      grow_more {free2} small size f = go w.fuel w.grows w.lasts
        where
          l : q < n
          l = rest_below q (free_rest q t)

          number_at : (i : ℕ) → i < 64 → Dec (i ≡ q) → entry (set new q group) i ≡ cond (elem i w.places || eqb i q) group (entry old i)
          number_at i b (yes p) = rw (p, eq-eqb q q refl, or-true (elem q w.places)) (get_or-set_same new q group 0 (omega arith))
          number_at i b (no p) = rw (ne_eqb i q p, or-false (elem i w.places)) (get_or-set_other new q i group 0 p ∙ w.numbers i b)

          free_at : (a b c d : Bool) → (((a && not b) && not c) && not d) ≡ ((a && not c) && not (b || d))
          free_at false b c d = refl
          free_at true true true d = refl
          free_at true true false d = refl
          free_at true false c d = refl

          go : (k : ℕ) → grown n bars n gs (first ∷ []) ≡ grown k bars n gs w.places → count_below rest n ≤ k → Grows bars n gs first group old rest2 free2 (set new q group)
          go zero e b = absurd (omega (arith, fewer_left n l))
          go (suc k) e b =
              record {
                places = w.places ++ (q ∷ []);
                fuel = k;
                grows = e ∙ grown_some bars n gs w.places k q takes_it;
                rests = λ i. r i ∙ rw (w.rests i) (sym (last_more n gs w.places q i));
                frees = λ i. f i ∙ rw (w.frees i, r i, barred_more bars i q w.places) (free_at (rest i) (barred_by bars w.places i) (eqb i q) (bars q i));
                numbers = λ i h. rw (elem_more i q w.places) (number_at i h (ℕ_discrete i q));
                lasts = omega (arith, fewer_left n l);
              }
