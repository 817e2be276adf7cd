-- A machine whose places are groups of another's places: where a state stands, and that merging two groups is merging two places.
use Prim.Native.Nat.{ℕ, zero, suc, ◌<◌, ◌≤◌}
use native.Mathlib.Omega.{arith}
use mathlib.Core.Path.{◌≡◌, refl, ap, sym, ◌∙◌, subst}
use mathlib.Core.Logic.{◌⊎◌, inl, inr}
use mathlib.Core.List.{List, [], ◌∷◌, ◌++◌, map, flat_map, append-nil}
use lib.Dec.{T, eqb, eqb→eq}
use lib.ListN.{length, get_or, set, take, length-map, get_or-map}
use lib.Seq.{take-suc, take-length, get_or-append_seam}
use Rattle.model.specs.Lists.{exists, elem, numbers}
use Rattle.model.specs.TransitionSystem.{TransitionSystem}
use Rattle.model.specs.Machine.{Place, Machine, Decomposition, place_in, place_of}
use Rattle.model.specs.Merging.{removed, merge_places, merge_machine, merge_in, place_count}
use Rattle.model.proofs.Laws.{or_e}
use Rattle.model.proofs.ListLaws.{map_append, flat_map_append}
use Rattle.model.proofs.Positions.{map_at, at_value}
use Rattle.model.proofs.Places.{Good}
use Rattle.model.proofs.Arcs.{place_number, in_place}
use Rattle.model.proofs.MergePlaces.{elem_left, elem_right}
use Rattle.merging.proofs.Middle.{merge_mid, count_mid}
use Rattle.merging.proofs.Barring.{place_low}
use Rattle.merging.proofs.Parting.{Parts, single, in_group}

-- the sets of a group's places, in the group's order
abbrev pub united : Machine → List ℕ → Place
united m g = flat_map (λ q. get_or m.places q []) g

-- each group one place
unfoldable pub joined : Machine → List (List ℕ) → Machine
joined m gs = record { places = map (united m) gs }

pub joined_count : (m : Machine) (gs : List (List ℕ)) → length (joined m gs).places ≡ length gs
unfolding joined
joined_count m gs = length-map gs (united m)

-- ---- where a state stands
elem_united : (m : Machine) (g : List ℕ) (q u : ℕ) → T (elem q g) → T (elem u (get_or m.places q [])) → T (elem u (united m g))
unfolding elem exists flat_map
elem_united m [] q u t x = absurd t
elem_united m (y ∷ g) q u t x = go (or_e (eqb q y) (exists (eqb q) g) t) (elem_united m g q u)
  where
    go : T (eqb q y) ⊎ T (exists (eqb q) g) → (T (exists (eqb q) g) → T (elem u (get_or m.places q [])) → T (elem u (united m g)))
        → T (elem u (get_or m.places y [] ++ united m g))
    go (inl h) ih = elem_left u (get_or m.places y []) (united m g) (subst (λ (z : ℕ). T (elem u (get_or m.places z []))) (eqb→eq q y h) x)
    go (inr h) ih = elem_right u (get_or m.places y []) (united m g) (ih h x)

pub joined_place : (p : TransitionSystem) (m : Machine) (gs : List (List ℕ)) → Good p m → Good p (joined m gs) → Parts (length m.places) gs
    → (u : ℕ) → u < p.states → place_of (joined m gs) u ≡ place_in gs (place_of m u)
unfolding joined
joined_place p m gs g h r u l =
    let w = in_place p m g u l in
    let v = in_group r (place_of m u) (place_low p m g u l) in
    place_number (map (united m) gs) (place_in gs (place_of m u)) (united m v.0) u (map_at (united m) gs (place_in gs (place_of m u)) v.0 v.1)
    (elem_united m v.0 (place_of m u) u v.2 (subst (λ (z : Place). T (elem u z)) (sym (at_value m.places (place_of m u) w.place [] w.numbered)) w.contains))
    (h.base.once u l)

-- ---- merging
set_map : {A B : Type 0} (f : A → B) (l : List A) (i : ℕ) (v : A) → set (map f l) i (f v) ≡ map f (set l i v)
set_map f [] i v = refl
set_map f (x ∷ l) zero v = refl
set_map {B = B} f (x ∷ l) (suc i) v = ap (λ (k : List B). f x ∷ k) (set_map f l i v)

removed_map : {A B : Type 0} (f : A → B) (k : ℕ) (l : List A) → removed k (map f l) ≡ map f (removed k l)
unfolding removed
removed_map f k [] = refl
removed_map f zero (x ∷ l) = refl
removed_map {B = B} f (suc k) (x ∷ l) = ap (λ (z : List B). f x ∷ z) (removed_map f k l)

merge_places_lem : (m : Machine) (i j : ℕ) (gs : List (List ℕ)) → merge_places i j (map (united m) gs) ≡ map (united m) (merge_places i j gs)
unfolding merge_places flat_map
merge_places_lem m i j gs =
    ap (λ (z : Place). removed j (set (map (united m) gs) i z)) value
    ∙ ap (removed j) (set_map (united m) gs i (get_or gs i [] ++ get_or gs j []))
    ∙ removed_map (united m) j (set gs i (get_or gs i [] ++ get_or gs j []))
  where
    at : (k : ℕ) → get_or (map (united m) gs) k [] ≡ united m (get_or gs k [])
    at k = get_or-map (united m) gs k []

    value : get_or (map (united m) gs) i [] ++ get_or (map (united m) gs) j [] ≡ united m (get_or gs i [] ++ get_or gs j [])
    value = rw (at i, at j) (sym (flat_map_append (λ (q : ℕ). get_or m.places q []) (get_or gs i []) (get_or gs j [])))

merge_joined : (m : Machine) (i j : ℕ) (gs : List (List ℕ)) → merge_machine i j (joined m gs) ≡ joined m (merge_places i j gs)
unfolding merge_machine joined
merge_joined m i j gs = ap (λ (l : List Place). record { places = l }) (merge_places_lem m i j gs)

-- the split with the groups for the places of its machine in the middle
module _ (front back : Decomposition) (m : Machine) where
  abbrev pub split_by : List (List ℕ) → Decomposition
  split_by gs = front ++ (joined m gs ∷ back)

  pub merge_split : (i j : ℕ) (gs : List (List ℕ)) → merge_in (length front) i j (split_by gs) ≡ split_by (merge_places i j gs)
  merge_split i j gs = merge_mid i j front back (joined m gs) ∙ ap (λ (n : Machine). front ++ (n ∷ back)) (merge_joined m i j gs)

  pub count_split : (gs : List (List ℕ)) → place_count (length front) (split_by gs) ≡ length gs
  count_split gs = count_mid front back (joined m gs) ∙ joined_count m gs

-- ---- each place by itself
joined_first : (m : Machine) (k : ℕ) → k ≤ length m.places → map (united m) (map single (numbers k)) ≡ take k m.places
unfolding numbers flat_map
joined_first m zero h = refl
joined_first m (suc k) h =
    ap (map (united m)) (map_append single (numbers k) (k ∷ []))
    ∙ map_append (united m) (map single (numbers k)) (single k ∷ [])
    ∙ rw (joined_first m k (omega arith), append-nil (get_or m.places k [])) (sym (take-suc m.places k [] (omega arith)))

pub joined_single : (m : Machine) → joined m (map single (numbers (length m.places))) ≡ m
unfolding joined
joined_single m = ap (λ (l : List Place). record { places = l }) (joined_first m (length m.places) (omega arith) ∙ take-length m.places)

-- ---- two groups of a list that are written out
removed_seam : {A : Type 0} (xs : List A) (y : A) (ys : List A) → removed (length xs) (xs ++ (y ∷ ys)) ≡ xs ++ ys
unfolding removed
removed_seam [] y ys = refl
removed_seam {A} (x ∷ xs) y ys = ap (λ (l : List A). x ∷ l) (removed_seam xs y ys)

pub merge_seams : (ws : List Place) (x : Place) (bs : List Place) (y : Place) (cs : List Place)
    → merge_places (length ws) (length (ws ++ (x ∷ bs))) (ws ++ (x ∷ (bs ++ (y ∷ cs)))) ≡ ws ++ ((x ++ y) ∷ (bs ++ cs))
unfolding merge_places removed
merge_seams [] x bs y cs = rw (get_or-append_seam bs y cs [], removed_seam bs y cs)
merge_seams (a ∷ ws) x bs y cs = ap (λ (l : List Place). a ∷ l) (merge_seams ws x bs y cs)
