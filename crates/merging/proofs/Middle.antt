-- One machine among others: what the split says by that machine and by the others together.
use Prim.Native.Nat.{ℕ}
use mathlib.Core.Path.{◌≡◌, refl, ap, sym, ◌∙◌, subst}
use mathlib.Core.Logic.{◌⊎◌, inl, inr, ◌↔◌}
use mathlib.Core.Bool.{not}
use mathlib.Core.List.{List, [], ◌∷◌, ◌++◌, Memᴰ}
use mathlib.Core.Option.{none, some, none-ne-some, some-injective}
use lib.Dec.{T, eqb, eqb→eq}
use lib.ListN.{length}
use Rattle.model.specs.Lists.{is_some}
use Rattle.model.specs.TransitionSystem.{Transition, TransitionSystem, leads}
use Rattle.model.specs.Product.{Move, in_alphabet, effective}
use Rattle.model.specs.Machine.{Machine, Decomposition, place_of, move, in_pre, ready, common, excited}
use Rattle.model.specs.Merging.{merge_machine, merge_in, place_count}
use Rattle.model.proofs.Laws.{and_l, and_r, eqb_of, exists_intro, exists_elim, every_intro, every_elim}
use Rattle.model.proofs.Bounds.{Within}
use Rattle.model.proofs.Places.{Good, same_pre}
use Rattle.model.proofs.Moves.{MoveView, moves, stays, move_view, move_of}

-- ---- lists
mid : {A : Type 0} (x m : A) (front back : List A) → Memᴰ x (front ++ (m ∷ back)) → (x ≡ m) ⊎ Memᴰ x (front ++ back)
mid x m [] back (Memᴰ.head e) = inl e
mid x m [] back (Memᴰ.tail k) = inr k
mid x m (y ∷ front) back (Memᴰ.head e) = inr (Memᴰ.head e)
mid {A} x m (y ∷ front) back (Memᴰ.tail k) = up (mid x m front back k)
  where
    up : (x ≡ m) ⊎ Memᴰ x (front ++ back) → (x ≡ m) ⊎ Memᴰ x (y ∷ (front ++ back))
    up (inl e) = inl e
    up (inr q) = inr (Memᴰ.tail q)

pub mid_here : {A : Type 0} (m : A) (front back : List A) → Memᴰ m (front ++ (m ∷ back))
mid_here m [] back = Memᴰ.head refl
mid_here m (y ∷ front) back = Memᴰ.tail (mid_here m front back)

pub mid_other : {A : Type 0} (x m : A) (front back : List A) → Memᴰ x (front ++ back) → Memᴰ x (front ++ (m ∷ back))
mid_other x m [] back k = Memᴰ.tail k
mid_other x m (y ∷ front) back (Memᴰ.head e) = Memᴰ.head e
mid_other x m (y ∷ front) back (Memᴰ.tail k) = Memᴰ.tail (mid_other x m front back k)

pub merge_mid : (i j : ℕ) (front back : Decomposition) (m : Machine) → merge_in (length front) i j (front ++ (m ∷ back)) ≡ front ++ (merge_machine i j m ∷ back)
unfolding merge_in
merge_mid i j [] back m = refl
merge_mid i j (n ∷ front) back m = ap (λ (l : Decomposition). n ∷ l) (merge_mid i j front back m)

pub count_mid : (front back : Decomposition) (m : Machine) → place_count (length front) (front ++ (m ∷ back)) ≡ length m.places
unfolding place_count
count_mid [] back m = refl
count_mid (n ∷ front) back m = count_mid front back m

-- ---- events
module _ (p : TransitionSystem) (front back : Decomposition) where
  pub effective_mid : (m : Machine) (e : ℕ) → T (effective (move p) (front ++ (m ∷ back)) e) → T (in_alphabet (move p) e m) ⊎ T (effective (move p) (front ++ back) e)
  unfolding effective
  effective_mid m e t = let w = exists_elim (in_alphabet (move p) e) (front ++ (m ∷ back)) t in go w.0 w.2 (mid w.0 m front back w.1)
    where
      go : (x : Machine) → T (in_alphabet (move p) e x) → (x ≡ m) ⊎ Memᴰ x (front ++ back) → T (in_alphabet (move p) e m) ⊎ T (effective (move p) (front ++ back) e)
      go x y (inl q) = inl (subst (λ (z : Machine). T (in_alphabet (move p) e z)) q y)
      go x y (inr q) = inr (exists_intro (in_alphabet (move p) e) (front ++ back) x q y)

  pub mid_effective : (m : Machine) (e : ℕ) → T (in_alphabet (move p) e m) ⊎ T (effective (move p) (front ++ back) e) → T (effective (move p) (front ++ (m ∷ back)) e)
  unfolding effective
  mid_effective m e (inl t) = exists_intro (in_alphabet (move p) e) (front ++ (m ∷ back)) m (mid_here m front back) t
  mid_effective m e (inr t) =
      let w = exists_elim (in_alphabet (move p) e) (front ++ back) t in
      exists_intro (in_alphabet (move p) e) (front ++ (m ∷ back)) w.0 (mid_other w.0 m front back w.1) w.2

  pub common_mid : (m : Machine) (e s : ℕ) → T (common p (front ++ (m ∷ back)) e s) ↔ (T (ready p e s m) × T (common p (front ++ back) e s))
  unfolding common
  common_mid m e s = (
    λ t. (
      every_elim (ready p e s) (front ++ (m ∷ back)) t m (mid_here m front back),
      every_intro (ready p e s) (front ++ back) (λ x k. every_elim (ready p e s) (front ++ (m ∷ back)) t x (mid_other x m front back k)),
    ),
    λ t. every_intro (ready p e s) (front ++ (m ∷ back)) (λ x k. go t x (mid x m front back k)),
  )
    where
      go : T (ready p e s m) × T (common p (front ++ back) e s) → (x : Machine) → (x ≡ m) ⊎ Memᴰ x (front ++ back) → T (ready p e s x)
      go t x (inl q) = subst (λ (z : Machine). T (ready p e s z)) (sym q) t.0
      go t x (inr q) = every_elim (ready p e s) (front ++ back) t.1 x q

module _ (p : TransitionSystem) where
  -- where a machine is ready and what is on it, by its move
  pub ready_none : (n : Machine) (e s : ℕ) → move p n e ≡ none → T (ready p e s n)
  unfolding ready in_pre
  ready_none n e s q = rw q tt

  pub ready_some : (n : Machine) (e s : ℕ) (v : Move) → move p n e ≡ some v → T (ready p e s n) ↔ (place_of n s ≡ v.pre)
  unfolding ready in_pre
  ready_some n e s v q = (λ t. eqb→eq (place_of n s) v.pre (rw q at t), λ x. rw q (eqb_of (place_of n s) v.pre x))

  pub on_some_lem : (n : Machine) (e : ℕ) (v : Move) → move p n e ≡ some v → T (in_alphabet (move p) e n)
  unfolding in_alphabet is_some
  on_some_lem n e v q = rw q tt

  pub not_on : (n : Machine) (e : ℕ) → move p n e ≡ none → ¬ T (in_alphabet (move p) e n)
  unfolding in_alphabet is_some
  not_on n e q t = rw q at t

  pub off_none : (n : Machine) (e : ℕ) → T (not (in_alphabet (move p) e n)) → move p n e ≡ none
  unfolding in_alphabet is_some
  off_none n e t = go (move_view p n e)
    where
      go : MoveView p n e → move p n e ≡ none
      go (stays q s) = q
      go (moves u q k h c) = absurd (rw q at t)

  -- a state in which the event can run stands in its pre-place
  pub excited_pre : (m : Machine) → Within p → Good p m → (e s : ℕ) (v : Move) → move p m e ≡ some v → T (excited p e s) → place_of m s ≡ v.pre
  unfolding excited leads
  excited_pre m b g e s v q x =
      let w = exists_elim (leads s e) p.transitions x in
      let hs = eqb→eq w.0.source s (and_l (eqb w.0.source s) (eqb w.0.event e) w.2) in
      let he = eqb→eq w.0.event e (and_r (eqb w.0.source s) (eqb w.0.event e) w.2) in
      go w.0 w.1 hs he (move_view p m e)
    where
      go : (t : Transition) → Memᴰ t p.transitions → t.source ≡ s → t.event ≡ e → MoveView p m e → place_of m s ≡ v.pre
      go t y hs he (stays r st) = absurd (none-ne-some v (sym r ∙ q))
      go t y hs he (moves u r z hu c) =
          ap (place_of m) (sym hs) ∙ same_pre p m b g e u t z y hu he c ∙ ap (λ (a : Move). a.pre) (some-injective (move_of m u) v (sym r ∙ q))
