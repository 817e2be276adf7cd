-- Two places of a machine merged: the places are regions again, with each state in just one of them.
use Prim.Native.Nat.{ℕ, zero, suc, ◌+◌, ◌<◌, ◌≤◌}
use native.Mathlib.Omega.{arith}
use mathlib.Core.Path.{◌≡◌, refl, sym, ◌∙◌, subst}
use mathlib.Core.Logic.{◌⊎◌, inl, inr}
use mathlib.Core.Bool.{Bool, not, ◌&&◌}
use mathlib.Core.List.{List, [], ◌∷◌, ◌++◌, flatten, Memᴰ}
use lib.Dec.{T, eqb}
use lib.ListN.{length, get_or}
use Rattle.model.specs.Lists.{At, exists, count, elem}
use Rattle.model.specs.TransitionSystem.{Transition, TransitionSystem, exits}
use Rattle.model.specs.Machine.{Place, Machine, transitions_of, enters, all_or_none, uniform}
use Rattle.model.specs.Merging.{removed, merge_places, merge_machine}
use Rattle.model.proofs.Laws.{not_T, contra, and_l, and_r, and_i, or_l, or_r, or_e}
use Rattle.model.proofs.ListLaws.{exists_append}
use Rattle.model.proofs.Positions.{at_mem, at_get_d}
use Rattle.model.proofs.Counting.{count_append}
use Rattle.model.proofs.Bounds.{Within, ListedPlace, Listed}
use Rattle.model.proofs.Places.{Good, home, elem_flatten, same_place, all_or_none_elim, uniform_enters, uniform_exits}
use Rattle.model.proofs.Regions.{all_or_none_intro, event_of_lem, elem_same}
use Rattle.model.proofs.Arcs.{place_number}
use Rattle.model.proofs.Coarser.{Coarser}

-- ---- each state is listed as often as before

removed_count : (f : ℕ → Bool) (k : ℕ) (l : List Place) → k < length l → count f (get_or l k []) + count f (flatten (removed k l)) ≡ count f (flatten l)
unfolding removed flatten
removed_count f k [] h = absurd (omega arith)
removed_count f zero (x ∷ l) h = sym (count_append f x (flatten l))
removed_count f (suc k) (x ∷ l) h = omega (arith, removed_count f k l (omega arith), count_append f x (flatten (removed k l)), count_append f x (flatten l))

merge_count : (f : ℕ → Bool) (i j : ℕ) (ps : List Place) → i < j → j < length ps → count f (flatten (merge_places i j ps)) ≡ count f (flatten ps)
unfolding merge_places removed flatten
merge_count f i zero ps h k = absurd (omega arith)
merge_count f i (suc j) [] h k = absurd (omega arith)
merge_count f zero (suc j) (p ∷ ps) h k =
    omega (arith, count_append f (p ++ get_or ps j []) (flatten (removed j ps)), count_append f p (get_or ps j []), removed_count f j ps (omega arith), count_append f p (flatten ps))
merge_count f (suc i) (suc j) (p ∷ ps) h k =
    omega (arith, merge_count f i j ps (omega arith) (omega arith), count_append f p (flatten (merge_places i j ps)), count_append f p (flatten ps))

-- ---- where a place comes from, and where it goes

pub data Origin (i j : ℕ) (ps : List Place) (r : Place) : Type 0 where
  kept : Memᴰ r ps → Origin i j ps r
  union : (a b : Place) → At ps i a → At ps j b → r ≡ a ++ b → Origin i j ps r

removed_mem : (k : ℕ) (l : List Place) (r : Place) → Memᴰ r (removed k l) → Memᴰ r l
unfolding removed
removed_mem k [] r m = m
removed_mem zero (x ∷ l) r m = Memᴰ.tail m
removed_mem (suc k) (x ∷ l) r (Memᴰ.head e) = Memᴰ.head e
removed_mem (suc k) (x ∷ l) r (Memᴰ.tail m) = Memᴰ.tail (removed_mem k l r m)

pub origin : (i j : ℕ) (ps : List Place) → i < j → j < length ps → (r : Place) → Memᴰ r (merge_places i j ps) → Origin i j ps r
unfolding merge_places removed
origin i zero ps h k r m = absurd (omega arith)
origin i (suc j) [] h k r m = absurd (omega arith)
origin zero (suc j) (p ∷ ps) h k r (Memᴰ.head e) = union p (get_or ps j []) refl (at_get_d ps j [] (omega arith)) e
origin zero (suc j) (p ∷ ps) h k r (Memᴰ.tail m) = kept (Memᴰ.tail (removed_mem j ps r m))
origin (suc i) (suc j) (p ∷ ps) h k r (Memᴰ.head e) = kept (Memᴰ.head e)
origin (suc i) (suc j) (p ∷ ps) h k r (Memᴰ.tail m) = go (origin i j ps (omega arith) (omega arith) r m)
  where
    go : Origin i j ps r → Origin (suc i) (suc j) (p ∷ ps) r
    go (kept q) = kept (Memᴰ.tail q)
    go (union a b x y e) = union a b x y e

-- the states of a place are together in one place after the merge
pub record Goes (ps : List Place) (r : Place) : Type 0 where
  pub place : Place
  pub listed : Memᴰ place ps
  pub holds : (s : ℕ) → T (elem s r) → T (elem s place)

pub elem_left : (s : ℕ) (a b : Place) → T (elem s a) → T (elem s (a ++ b))
unfolding elem
elem_left s a b t = rw (exists_append (eqb s) a b) (or_l (exists (eqb s) a) (exists (eqb s) b) t)

pub elem_right : (s : ℕ) (a b : Place) → T (elem s b) → T (elem s (a ++ b))
unfolding elem
elem_right s a b t = rw (exists_append (eqb s) a b) (or_r (exists (eqb s) a) (exists (eqb s) b) t)

pub elem_either : (s : ℕ) (a b : Place) → T (elem s (a ++ b)) → T (elem s a) ⊎ T (elem s b)
unfolding elem
elem_either s a b t = or_e (exists (eqb s) a) (exists (eqb s) b) (rw (exists_append (eqb s) a b) at t)

removed_goes : (k : ℕ) (l : List Place) (r : Place) → k < length l → Memᴰ r l → (r ≡ get_or l k []) ⊎ Memᴰ r (removed k l)
unfolding removed
removed_goes k [] r h m = absurd (omega arith)
removed_goes zero (x ∷ l) r h (Memᴰ.head e) = inl e
removed_goes zero (x ∷ l) r h (Memᴰ.tail m) = inr m
removed_goes (suc k) (x ∷ l) r h (Memᴰ.head e) = inr (Memᴰ.head e)
removed_goes (suc k) (x ∷ l) r h (Memᴰ.tail m) = go (removed_goes k l r (omega arith) m)
  where
    go : (r ≡ get_or l k []) ⊎ Memᴰ r (removed k l) → (r ≡ get_or l k []) ⊎ Memᴰ r (x ∷ removed k l)
    go (inl e) = inl e
    go (inr q) = inr (Memᴰ.tail q)

goes : (i j : ℕ) (ps : List Place) → i < j → j < length ps → (r : Place) → Memᴰ r ps → Goes (merge_places i j ps) r
unfolding merge_places removed
goes i zero ps h k r m = absurd (omega arith)
goes i (suc j) [] h k r m = absurd (omega arith)
goes zero (suc j) (p ∷ ps) h k r (Memᴰ.head e) =
    record { place = p ++ get_or ps j []; listed = Memᴰ.head refl; holds = λ s t. elem_left s p (get_or ps j []) (subst (λ (q : Place). T (elem s q)) e t) }
goes zero (suc j) (p ∷ ps) h k r (Memᴰ.tail m) = go (removed_goes j ps r (omega arith) m)
  where
    go : (r ≡ get_or ps j []) ⊎ Memᴰ r (removed j ps) → Goes ((p ++ get_or ps j []) ∷ removed j ps) r
    go (inl e) = record { place = p ++ get_or ps j []; listed = Memᴰ.head refl; holds = λ s t. elem_right s p (get_or ps j []) (subst (λ (q : Place). T (elem s q)) e t) }
    go (inr q) = record { place = r; listed = Memᴰ.tail q; holds = λ s t. t }
goes (suc i) (suc j) (p ∷ ps) h k r (Memᴰ.head e) = record { place = r; listed = Memᴰ.head e; holds = λ s t. t }
goes (suc i) (suc j) (p ∷ ps) h k r (Memᴰ.tail m) =
    let w = goes i j ps (omega arith) (omega arith) r m in record { place = w.place; listed = Memᴰ.tail w.listed; holds = w.holds }

-- ---- the union of two places is uniform

module _ (p : TransitionSystem) (b : Within p) (e : ℕ) where
  all_enter : (r : Place) → T (uniform p e r) → (t u : Transition) → Memᴰ t (transitions_of p e) → Memᴰ u (transitions_of p e)
      → T (not (elem t.source r)) → T (elem t.target r) → T (not (elem u.source r)) × T (elem u.target r)
  unfolding enters
  all_enter r h t u kt ku a c =
      let w = all_or_none_elim (enters r) (transitions_of p e) (uniform_enters p e r h) t u kt ku (and_i (not (elem t.source r)) (elem t.target r) a c) in
      (and_l (not (elem u.source r)) (elem u.target r) w, and_r (not (elem u.source r)) (elem u.target r) w)

  all_exit : (r : Place) → T (uniform p e r) → (t u : Transition) → Memᴰ t (transitions_of p e) → Memᴰ u (transitions_of p e)
      → T (elem t.source r) → T (not (elem t.target r)) → T (elem u.source r) × T (not (elem u.target r))
  unfolding exits
  all_exit r h t u kt ku a c =
      let w = all_or_none_elim (exits r) (transitions_of p e) (uniform_exits p e r h) t u kt ku (and_i (elem t.source r) (not (elem t.target r)) a c) in
      (and_l (elem u.source r) (not (elem u.target r)) w, and_r (elem u.source r) (not (elem u.target r)) w)

  -- a transition into one of two places that are apart, from outside both, or out of one to outside both: all of its event do the same
  module _ (x y : Place) (ux : T (uniform p e x)) (uy : T (uniform p e y)) (apart : (s : ℕ) → s < p.states → T (elem s x) → T (not (elem s y)))
      (t u : Transition) (kt : Memᴰ t (transitions_of p e)) (ku : Memᴰ u (transitions_of p e)) where
    enter_one : T (not (elem t.source x)) → T (not (elem t.source y)) → T (elem t.target x)
        → T (not (elem u.source x)) × T (not (elem u.source y)) × T (elem u.target x)
    enter_one sx sy tx = (w.0, not_T (elem u.source y) stays_out, w.1)
      where
        w : T (not (elem u.source x)) × T (elem u.target x)
        w = all_enter x ux t u kt ku sx tx

        stays_out : ¬ T (elem u.source y)
        stays_out h = contra (elem t.source y) sy (all_exit y uy u t ku kt h (apart u.target (b.target u (event_of_lem p e u ku).0) w.1)).0

    exit_one : T (elem t.source x) → T (not (elem t.target x)) → T (not (elem t.target y))
        → T (elem u.source x) × T (not (elem u.target x)) × T (not (elem u.target y))
    exit_one sx tx ty = (w.0, w.1, not_T (elem u.target y) stays_out)
      where
        w : T (elem u.source x) × T (not (elem u.target x))
        w = all_exit x ux t u kt ku sx tx

        stays_out : ¬ T (elem u.target y)
        stays_out h = contra (elem t.target y) ty (all_enter y uy u t ku kt (apart u.source (b.source u (event_of_lem p e u ku).0) w.0) h).1

  module _ (x y : Place) (ux : T (uniform p e x)) (uy : T (uniform p e y))
      (apart : (s : ℕ) → s < p.states → T (elem s x) → T (not (elem s y))) (apart' : (s : ℕ) → s < p.states → T (elem s y) → T (not (elem s x))) where
    outside : (s : ℕ) → T (not (elem s x)) → T (not (elem s y)) → T (not (elem s (x ++ y)))
    outside s m n = not_T (elem s (x ++ y)) (λ t. go (elem_either s x y t))
      where
        go : T (elem s x) ⊎ T (elem s y) → ⊥
        go (inl t) = contra (elem s x) m t
        go (inr t) = contra (elem s y) n t

    outside_l : (s : ℕ) → T (not (elem s (x ++ y))) → T (not (elem s x))
    outside_l s n = not_T (elem s x) (λ t. contra (elem s (x ++ y)) n (elem_left s x y t))

    outside_r : (s : ℕ) → T (not (elem s (x ++ y))) → T (not (elem s y))
    outside_r s n = not_T (elem s y) (λ t. contra (elem s (x ++ y)) n (elem_right s x y t))

    pub uniform_union : T (uniform p e (x ++ y))
    unfolding uniform enters exits
    uniform_union =
        and_i (all_or_none (enters (x ++ y)) (transitions_of p e)) (all_or_none (exits (x ++ y)) (transitions_of p e))
        (all_or_none_intro (enters (x ++ y)) (transitions_of p e) (λ t u kt ku h.
        en t u kt ku (and_l (not (elem t.source (x ++ y))) (elem t.target (x ++ y)) h)
        (elem_either t.target x y (and_r (not (elem t.source (x ++ y))) (elem t.target (x ++ y)) h))))
        (all_or_none_intro (exits (x ++ y)) (transitions_of p e) (λ t u kt ku h.
        ex t u kt ku (elem_either t.source x y (and_l (elem t.source (x ++ y)) (not (elem t.target (x ++ y))) h))
        (and_r (elem t.source (x ++ y)) (not (elem t.target (x ++ y))) h)))
      where
        en : (t u : Transition) → Memᴰ t (transitions_of p e) → Memᴰ u (transitions_of p e)
            → T (not (elem t.source (x ++ y))) → T (elem t.target x) ⊎ T (elem t.target y) → T (not (elem u.source (x ++ y)) && elem u.target (x ++ y))
        en t u kt ku n (inl h) =
            let w = enter_one x y ux uy apart t u kt ku (outside_l t.source n) (outside_r t.source n) h in
            and_i (not (elem u.source (x ++ y))) (elem u.target (x ++ y)) (outside u.source w.0 w.1) (elem_left u.target x y w.2)
        en t u kt ku n (inr h) =
            let w = enter_one y x uy ux apart' t u kt ku (outside_r t.source n) (outside_l t.source n) h in
            and_i (not (elem u.source (x ++ y))) (elem u.target (x ++ y)) (outside u.source w.1 w.0) (elem_right u.target x y w.2)

        ex : (t u : Transition) → Memᴰ t (transitions_of p e) → Memᴰ u (transitions_of p e)
            → T (elem t.source x) ⊎ T (elem t.source y) → T (not (elem t.target (x ++ y))) → T (elem u.source (x ++ y) && not (elem u.target (x ++ y)))
        ex t u kt ku (inl h) n =
            let w = exit_one x y ux uy apart t u kt ku h (outside_l t.target n) (outside_r t.target n) in
            and_i (elem u.source (x ++ y)) (not (elem u.target (x ++ y))) (elem_left u.source x y w.0) (outside u.target w.1 w.2)
        ex t u kt ku (inr h) n =
            let w = exit_one y x uy ux apart' t u kt ku h (outside_r t.target n) (outside_l t.target n) in
            and_i (elem u.source (x ++ y)) (not (elem u.target (x ++ y))) (elem_right u.source x y w.0) (outside u.target w.2 w.1)

-- ---- the merged machine

-- a state is not in two places
two_places : (ps : List Place) (i j : ℕ) (a c : Place) (s : ℕ) → ¬ (i ≡ j) → At ps i a → At ps j c → count (eqb s) (flatten ps) ≤ 1 → T (elem s a) → T (not (elem s c))
two_places ps i j a c s d x y o h = not_T (elem s c) (λ k. d (sym (place_number ps i a s x h o) ∙ place_number ps j c s y k o))

module _ (p : TransitionSystem) (b : Within p) (i j : ℕ) (m : Machine) (h : i < j) (k : j < length m.places) where
  pub merge_good : Good p m → Good p (merge_machine i j m)
  unfolding merge_machine
  merge_good g =
      record {
        base = record { once = λ s l. omega (arith, merge_count (eqb s) i j m.places h k, g.base.once s l); placed = placed };
        uniform = λ e l r q. even e l r (origin i j m.places h k r q);
      }
    where
      placed : (s : ℕ) → s < p.states → T (elem s (flatten (merge_places i j m.places)))
      placed s l =
          let w = home m.places s (g.base.placed s l) in
          let v = goes i j m.places h k w.place w.listed in
          elem_flatten (merge_places i j m.places) v.place s v.listed (v.holds s w.holds)

      even : (e : ℕ) → e < p.events → (r : Place) → Origin i j m.places r → T (uniform p e r)
      even e l r (kept q) = g.uniform e l r q
      even e l r (union x y ax ay q) =
          subst (λ (z : Place). T (uniform p e z)) (sym q)
          (uniform_union p b e x y (g.uniform e l x (at_mem m.places i x ax)) (g.uniform e l y (at_mem m.places j y ay))
          (λ s v. two_places m.places i j x y s (λ (z : i ≡ j). omega (arith, z)) ax ay (g.base.once s v))
          (λ s v. two_places m.places j i y x s (λ (z : j ≡ i). omega (arith, z)) ay ax (g.base.once s v)))

  pub merge_listed : Listed p m → Listed p (merge_machine i j m)
  unfolding merge_machine
  merge_listed w r q = go (origin i j m.places h k r q)
    where
      go : Origin i j m.places r → ListedPlace p r
      go (kept v) = w r v
      go (union x y ax ay e) =
          let wx = w x (at_mem m.places i x ax) in
          let wy = w y (at_mem m.places j y ay) in
          rw e (record { within = λ s t. either s wx wy (elem_either s x y t); nonempty = (wx.nonempty.0, elem_left wx.nonempty.0 x y wx.nonempty.1) })
        where
          either : (s : ℕ) → ListedPlace p x → ListedPlace p y → T (elem s x) ⊎ T (elem s y) → s < p.states
          either s wx wy (inl t) = wx.within s t
          either s wx wy (inr t) = wy.within s t

  -- the merged machine is coarser
  pub merge_coarser : Good p m → Coarser p (merge_machine i j m) m
  unfolding merge_machine
  merge_coarser g s u ls lu e =
      let w = home m.places s (g.base.placed s ls) in
      let v = goes i j m.places h k w.place w.listed in
      same_place (merge_places i j m.places) v.place s u v.listed (v.holds s w.holds)
      (v.holds u (elem_same m.places w.place s u w.listed w.holds (g.base.once s ls) e))
      (omega (arith, merge_count (eqb s) i j m.places h k, g.base.once s ls))
      (omega (arith, merge_count (eqb u) i j m.places h k, g.base.once u lu))
