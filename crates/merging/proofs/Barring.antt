-- Which places of a machine bar each other. A machine whose places are unions of its places, beside the same other machines, passes 11 and 12 exactly if no two places that became one
-- bar each other: which places do is a matter of the machine as it was.
use Prim.Native.Nat.{ℕ, ◌<◌}
use mathlib.Core.Path.{◌≡◌, refl, ap, ap₂, sym, ◌∙◌, subst}
use mathlib.Core.Logic.{◌⊎◌, inl, inr}
use mathlib.Core.Bool.{not}
use mathlib.Core.List.{◌∷◌, ◌++◌, Memᴰ}
use mathlib.Core.Option.{Option, none, some, none-ne-some, some-injective}
use lib.Dec.{T, eqb, eqb→eq}
use lib.ListN.{length}
use Rattle.model.specs.TransitionSystem.{Transition, TransitionSystem}
use Rattle.model.specs.Product.{Move, in_alphabet, effective}
use Rattle.model.specs.Machine.{Machine, Decomposition, place_of, move, ready, common, excited}
use Rattle.model.proofs.Laws.{dec, not_T, contra, eqb_of, neqb, cond_true, cond_false, none_exists, every_intro}
use Rattle.model.proofs.Positions.{at_below}
use Rattle.model.proofs.Bounds.{Within}
use Rattle.model.proofs.Places.{Good, same_pre, same_post}
use Rattle.model.proofs.Moves.{MoveView, moves, stays, move_view, move_of}
use Rattle.model.proofs.Arcs.{in_place}
use Rattle.model.proofs.Simulate.{Covers}
use Rattle.merging.specs.Groups.{renumbered}
use Rattle.merging.proofs.Middle.{effective_mid, mid_effective, common_mid, ready_none, ready_some, on_some_lem, not_on, off_none, excited_pre}

-- An event leads from place a, and the other machines alone would let it run in a state where it cannot. Place c is where that state stands, so that the event would run there once a and
-- c are one; or c is where the event leads to, so that this machine would no longer have it.
pub record Barred (p : TransitionSystem) (front back : Decomposition) (m : Machine) (a c : ℕ) : Type 0 where
  pub event : ℕ
  pub declared : event < p.events
  pub post : ℕ
  pub moves : move p m event ≡ some (record { pre = a; post = post })
  pub state : ℕ
  pub below : state < p.states
  pub others : T (common p (front ++ back) event state)
  pub outside : T (not (excited p event state))
  pub ends : (c ≡ post) ⊎ (c ≡ place_of m state)

pub place_low : (p : TransitionSystem) (m : Machine) → Good p m → (s : ℕ) → s < p.states → place_of m s < length m.places
place_low p m g s l = let w = in_place p m g s l in at_below m.places (place_of m s) w.place w.numbered

module _ (p : TransitionSystem) (b : Within p) (m : Machine) (g : Good p m) where
  -- an event's two ends are places, and different
  ends_of : (e : ℕ) (v : Move) → move p m e ≡ some v → (t : Transition) × Memᴰ t p.transitions × (v ≡ move_of m t) × (¬ (v.pre ≡ v.post))
  ends_of e v q = go (move_view p m e)
    where
      go : MoveView p m e → (t : Transition) × Memᴰ t p.transitions × (v ≡ move_of m t) × (¬ (v.pre ≡ v.post))
      go (stays r st) = absurd (none-ne-some v (sym r ∙ q))
      go (moves t r k h c) =
          let w = some-injective (move_of m t) v (sym r ∙ q) in
          (t, k, sym w, λ z. c (ap (λ (y : Move). y.pre) w ∙ z ∙ sym (ap (λ (y : Move). y.post) w)))

  pub barred_low : (front back : Decomposition) (a c : ℕ) → Barred p front back m a c → (a < length m.places) × (c < length m.places)
  barred_low front back a c x = go (ends_of x.event (record { pre = a; post = x.post }) x.moves) x.ends
    where
      go : (t : Transition) × Memᴰ t p.transitions × (◌≡◌ {A = Move} (record { pre = a; post = x.post }) (move_of m t)) × (¬ (a ≡ x.post))
          → (c ≡ x.post) ⊎ (c ≡ place_of m x.state) → (a < length m.places) × (c < length m.places)
      go w d = (low (ap (λ (y : Move). y.pre) w.2) (place_low p m g w.0.source (b.source w.0 w.1)), higher d)
        where
          low : {y z : ℕ} → y ≡ z → z < length m.places → y < length m.places
          low e l = subst (λ (k : ℕ). k < length m.places) (sym e) l

          higher : (c ≡ x.post) ⊎ (c ≡ place_of m x.state) → c < length m.places
          higher (inl e) = low (e ∙ ap (λ (y : Move). y.post) w.2) (place_low p m g w.0.target (b.target w.0 w.1))
          higher (inr e) = low e (place_low p m g x.state x.below)

-- ---- the machine n has the places of m with new numbers
module _ (p : TransitionSystem) (b : Within p) (m n : Machine) (g : Good p m) (f : ℕ → ℕ) (same : (s : ℕ) → s < p.states → place_of n s ≡ f (place_of m s)) where
  source : (t : Transition) → Memᴰ t p.transitions → place_of n t.source ≡ f (place_of m t.source)
  source t x = same t.source (b.source t x)

  target : (t : Transition) → Memᴰ t p.transitions → place_of n t.target ≡ f (place_of m t.target)
  target t x = same t.target (b.target t x)

  pub renumbered_move : (e : ℕ) → move p n e ≡ renumbered f (move p m e)
  unfolding renumbered
  renumbered_move e = go (move_view p m e) (move_view p n e)
    where
      go : MoveView p m e → MoveView p n e → move p n e ≡ renumbered f (move p m e)
      go (stays q st) (stays r su) = r ∙ sym (ap (renumbered f) q)
      go (stays q st) (moves t r x ht c) = absurd (c (source t x ∙ ap f (st t x ht) ∙ sym (target t x)))
      go (moves t q x ht c) (stays r su) =
          r ∙ sym (ap (renumbered f) q ∙ cond_true (eqb (f (place_of m t.source)) (f (place_of m t.target))) none _
          (eqb_of (f (place_of m t.source)) (f (place_of m t.target)) (sym (source t x) ∙ su t x ht ∙ target t x)))
      go (moves t q x ht c) (moves v r y hv d) =
          r ∙ ap₂ (λ (a z : ℕ). some (record { pre = a; post = z })) pres posts
          ∙ sym (ap (renumbered f) q ∙ cond_false (eqb (f (place_of m t.source)) (f (place_of m t.target))) none _
          (neqb (f (place_of m t.source)) (f (place_of m t.target)) (λ z. d (pres ∙ z ∙ sym posts))))
        where
          pres : place_of n v.source ≡ f (place_of m t.source)
          pres = source v y ∙ ap f (same_pre p m b g e t v x y ht hv c)

          posts : place_of n v.target ≡ f (place_of m t.target)
          posts = target v y ∙ ap f (same_post p m b g e t v x y ht hv c)

  -- the event is no longer on the machine, or goes between the new numbers
  gone : (e : ℕ) (v : Move) → move p m e ≡ some v → f v.pre ≡ f v.post → move p n e ≡ none
  unfolding renumbered
  gone e v q z = renumbered_move e ∙ ap (renumbered f) q ∙ cond_true (eqb (f v.pre) (f v.post)) none _ (eqb_of (f v.pre) (f v.post) z)

  still : (e : ℕ) (v : Move) → move p m e ≡ some v → ¬ (f v.pre ≡ f v.post) → move p n e ≡ some (record { pre = f v.pre; post = f v.post })
  unfolding renumbered
  still e v q z = renumbered_move e ∙ ap (renumbered f) q ∙ cond_false (eqb (f v.pre) (f v.post)) none _ (neqb (f v.pre) (f v.post) z)

  module _ (front back : Decomposition) where
    -- no two places that became one bar each other
    abbrev pub Valid : Type 0
    Valid = (a c : ℕ) → f a ≡ f c → ¬ Barred p front back m a c

    pub covers_valid : Covers p (front ++ (n ∷ back)) → Valid
    covers_valid k a c z x = contra (excited p x.event x.state) x.outside (by (dec (eqb (f a) (f x.post))))
      where
        open_at : T (ready p x.event x.state n) → T (excited p x.event x.state)
        open_at r = k.closed x.event x.declared x.state x.below ((common_mid p front back n x.event x.state).1 (r, x.others))

        by : T (eqb (f a) (f x.post)) ⊎ T (not (eqb (f a) (f x.post))) → T (excited p x.event x.state)
        by (inl t) = open_at (ready_none p n x.event x.state (gone x.event (record { pre = a; post = x.post }) x.moves (eqb→eq (f a) (f x.post) t)))
        by (inr t) = there x.ends
          where
            apart : ¬ (f a ≡ f x.post)
            apart y = contra (eqb (f a) (f x.post)) t (eqb_of (f a) (f x.post) y)

            there : (c ≡ x.post) ⊎ (c ≡ place_of m x.state) → T (excited p x.event x.state)
            there (inl y) = absurd (apart (z ∙ ap f y))
            there (inr y) =
                open_at ((ready_some p n x.event x.state (record { pre = f a; post = f x.post })
                (still x.event (record { pre = a; post = x.post }) x.moves apart)).1 (same x.state x.below ∙ ap f (sym y) ∙ sym z))

    module _ (old : Covers p (front ++ (m ∷ back))) (valid : Valid) where
      -- a state that the others allow and that the event does not leave stands in a place apart from the event's pre-place
      closed : (e : ℕ) → e < p.events → (s : ℕ) → s < p.states → T (common p (front ++ (n ∷ back)) e s) → T (not (excited p e s)) → ⊥
      closed e l s ls t out = go (move p m e) refl
        where
          w : T (ready p e s n) × T (common p (front ++ back) e s)
          w = (common_mid p front back n e s).0 t

          bar : (v : Move) → move p m e ≡ some v → (c : ℕ) → (c ≡ v.post) ⊎ (c ≡ place_of m s) → Barred p front back m v.pre c
          bar v q c d = record { event = e; declared = l; post = v.post; moves = q; state = s; below = ls; others = w.1; outside = out; ends = d }

          go : (o : Option Move) → move p m e ≡ o → ⊥
          go none q = contra (excited p e s) out (old.closed e l s ls ((common_mid p front back m e s).1 (ready_none p m e s q, w.1)))
          go (some v) q = by (dec (eqb (f v.pre) (f v.post)))
            where
              by : T (eqb (f v.pre) (f v.post)) ⊎ T (not (eqb (f v.pre) (f v.post))) → ⊥
              by (inl y) = valid v.pre v.post (eqb→eq (f v.pre) (f v.post) y) (bar v q v.post (inl refl))
              by (inr y) =
                  valid v.pre (place_of m s)
                  (sym ((ready_some p n e s _ (still e v q (λ z. contra (eqb (f v.pre) (f v.post)) y (eqb_of (f v.pre) (f v.post) z)))).0 w.0) ∙ same s ls)
                  (bar v q (place_of m s) (inr refl))

      -- an event that no other machine has stays on this one: its target would be open
      alone : (e : ℕ) → e < p.events → (v : Move) → move p m e ≡ some v → T (not (effective (move p) (front ++ back) e)) → ¬ (f v.pre ≡ f v.post)
      unfolding effective common
      alone e l v q none_has z = go (ends_of p b m g e v q)
        where
          all : (s : ℕ) → T (common p (front ++ back) e s)
          all s = every_intro (ready p e s) (front ++ back) (λ x k. ready_none p x e s (off_none p x e (none_exists (in_alphabet (move p) e) (front ++ back) none_has x k)))

          go : (t : Transition) × Memᴰ t p.transitions × (v ≡ move_of m t) × (¬ (v.pre ≡ v.post)) → ⊥
          go (t, k, r, d) =
              valid v.pre v.post z
              (record {
                event = e;
                declared = l;
                post = v.post;
                moves = q;
                state = t.target;
                below = b.target t k;
                others = all t.target;
                outside = not_T (excited p e t.target) (λ x. d (sym (excited_pre p m b g e t.target v q x) ∙ sym (ap (λ (y : Move). y.post) r)));
                ends = inl refl;
              })

      pub valid_covers : Covers p (front ++ (n ∷ back))
      valid_covers = record { effective = hold; closed = close }
        where
          close : (e : ℕ) → e < p.events → (s : ℕ) → s < p.states → T (common p (front ++ (n ∷ back)) e s) → T (excited p e s)
          close e l s ls t = go (dec (excited p e s))
            where
              go : T (excited p e s) ⊎ T (not (excited p e s)) → T (excited p e s)
              go (inl x) = x
              go (inr x) = absurd (closed e l s ls t x)

          hold : (e : ℕ) → e < p.events → T (effective (move p) (front ++ (n ∷ back)) e)
          hold e l = mid_effective p front back n e (go (dec (effective (move p) (front ++ back) e)) (effective_mid p front back m e (old.effective e l)) (move p m e) refl)
            where
              go : T (effective (move p) (front ++ back) e) ⊎ T (not (effective (move p) (front ++ back) e)) → T (in_alphabet (move p) e m) ⊎ T (effective (move p) (front ++ back) e)
                  → (o : Option Move) → move p m e ≡ o → T (in_alphabet (move p) e n) ⊎ T (effective (move p) (front ++ back) e)
              go (inl x) y o q = inr x
              go (inr x) (inr y) o q = inr y
              go (inr x) (inl y) none q = absurd (not_on p m e q y)
              go (inr x) (inl y) (some v) q = inl (on_some_lem p n e _ (still e v q (alone e l v q x)))
