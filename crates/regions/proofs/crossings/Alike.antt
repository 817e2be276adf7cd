-- Past 8 and 9 an event is uniform in all places exactly if its transitions lead alike through the machine: compared with one of them, all stay in their
-- place, or all lead from one place to the same other place. The code compares so, and reads the event's move off the one.
use Prim.Native.Nat.{ℕ, ◌<◌}
use mathlib.Core.Path.{◌≡◌, sym, ◌∙◌}
use mathlib.Core.Logic.{◌⊎◌, inl, inr}
use mathlib.Core.Bool.{not, cond, ◌&&◌}
use mathlib.Core.List.{Memᴰ}
use mathlib.Core.Option.{none, some}
use lib.Dec.{T, eqb, eqb→eq}
use Rattle.model.specs.Lists.{every, elem}
use Rattle.model.specs.TransitionSystem.{Transition, TransitionSystem, exits}
use Rattle.model.specs.Machine.{Place, Machine, place_of, move, transitions_of, enters, all_or_none, uniform}
use Rattle.model.proofs.Laws.{dec, T_true, T_false, and_l, and_r, and_i, not_T, neqb, contra, eqb_of, cond_true, cond_false, every_intro, every_elim}
use Rattle.model.proofs.Bounds.{Within}
use Rattle.model.proofs.Places.{Placed, uniform_pre, uniform_post}
use Rattle.model.proofs.Moves.{MoveView, moves, stays, move_view, move_of}
use Rattle.model.proofs.Regions.{all_or_none_intro, event_of_lem, enters_i, exits_i, enters_e, exits_e, elem_same}
use Rattle.regions.specs.declared.crossings.Crossing.{Crossing}
use Rattle.regions.specs.Crossings.{agreeing}

-- `agreeing` in words
abbrev pub Alike : Crossing → Crossing → Type 0
Alike a b = ((a.pre ≡ a.post) × (b.pre ≡ b.post)) ⊎ ((a.pre ≡ b.pre) × (a.post ≡ b.post))

pub apart : (x y : ℕ) → T (not (eqb x y)) → ¬ (x ≡ y)
apart x y n q = contra (eqb x y) n (eqb_of x y q)

module _ (a b : Crossing) where
  pub agreeing_alike : T (agreeing a b) → Alike a b
  unfolding agreeing
  agreeing_alike h = go (dec (eqb a.pre a.post))
    where
      go : T (eqb a.pre a.post) ⊎ T (not (eqb a.pre a.post)) → Alike a b
      go (inl t) =
          inl (eqb→eq a.pre a.post t, eqb→eq b.pre b.post (rw (T_true (eqb a.pre a.post) t) at h))
      go (inr t) = inr (eqb→eq a.pre b.pre (and_l (eqb a.pre b.pre) (eqb a.post b.post) same), eqb→eq a.post b.post (and_r (eqb a.pre b.pre) (eqb a.post b.post) same))
        where
          same : T (eqb a.pre b.pre && eqb a.post b.post)
          same = rw (T_false (eqb a.pre a.post) t) at h

  pub alike_agreeing : Alike a b → T (agreeing a b)
  unfolding agreeing
  alike_agreeing h = go (dec (eqb a.pre a.post)) h
    where
      go : T (eqb a.pre a.post) ⊎ T (not (eqb a.pre a.post)) → Alike a b → T (cond (eqb a.pre a.post) (eqb b.pre b.post) (eqb a.pre b.pre && eqb a.post b.post))
      go (inl t) (inl h) = rw (T_true (eqb a.pre a.post) t) (eqb_of b.pre b.post h.1)
      go (inl t) (inr h) =
          rw (T_true (eqb a.pre a.post) t) (eqb_of b.pre b.post (sym h.0 ∙ eqb→eq a.pre a.post t ∙ h.1))
      go (inr t) (inl h) = absurd (contra (eqb a.pre a.post) t (eqb_of a.pre a.post h.0))
      go (inr t) (inr h) =
          rw (T_false (eqb a.pre a.post) t)
          (and_i (eqb a.pre b.pre) (eqb a.post b.post) (eqb_of a.pre b.pre h.0) (eqb_of a.post b.post h.1))

-- alike with the same, alike with each other
alike_both : (a b d : Crossing) → Alike a b → Alike a d → Alike b d
alike_both a b d (inl h) (inl k) = inl (h.1, k.1)
alike_both a b d (inl h) (inr k) = inl (h.1, sym k.0 ∙ h.0 ∙ k.1)
alike_both a b d (inr h) (inl k) = inl (sym h.0 ∙ k.0 ∙ h.1, k.1)
alike_both a b d (inr h) (inr k) = inr (sym h.0 ∙ k.0, sym h.1 ∙ k.1)

-- a transition through a machine
abbrev pub through : Machine → Transition → Crossing
through m t = record { pre = place_of m t.source; post = place_of m t.target }

-- all transitions of the event lead like t, which is one of them
pub record Level (ts : TransitionSystem) (m : Machine) (e : ℕ) (t : Transition) : Type 0 where
  pub listed : Memᴰ t ts.transitions
  pub label : t.event ≡ e
  pub alike : (u : Transition) → Memᴰ u ts.transitions → u.event ≡ e → Alike (through m t) (through m u)

module _ (ts : TransitionSystem) (m : Machine) (b : Within ts) (g : Placed ts m) (e : ℕ) where
  both_in : (r : Place) → Memᴰ r m.places → (s u : ℕ) → s < ts.states → place_of m s ≡ place_of m u → T (elem s r) → T (elem u r)
  both_in r i s u l h x = elem_same m.places r s u i x (g.once s l) h

  both_out : (r : Place) → Memᴰ r m.places → (s u : ℕ) → u < ts.states → place_of m s ≡ place_of m u → T (not (elem s r)) → T (not (elem u r))
  both_out r i s u l h x = not_T (elem u r) (λ y. contra (elem s r) x (both_in r i u s l (sym h) y))

  pub level_uniform : (t : Transition) → Level ts m e t → T (every (uniform ts e) m.places)
  unfolding uniform
  level_uniform t v =
      every_intro (uniform ts e) m.places
      (λ r i. and_i (all_or_none (enters r) (transitions_of ts e)) (all_or_none (exits r) (transitions_of ts e))
      (all_or_none_intro (enters r) (transitions_of ts e) (λ x y kx ky. en r i x y (event_of_lem ts e x kx).0 (event_of_lem ts e y ky).0 (alike x y kx ky)))
      (all_or_none_intro (exits r) (transitions_of ts e) (λ x y kx ky. ex r i x y (event_of_lem ts e x kx).0 (event_of_lem ts e y ky).0 (alike x y kx ky))))
    where
      alike : (x y : Transition) → Memᴰ x (transitions_of ts e) → Memᴰ y (transitions_of ts e) → Alike (through m x) (through m y)
      alike x y kx ky =
          alike_both (through m t) (through m x) (through m y) (v.alike x (event_of_lem ts e x kx).0 (event_of_lem ts e x kx).1) (v.alike y (event_of_lem ts e y ky).0 (event_of_lem ts e y ky).1)

      en : (r : Place) → Memᴰ r m.places → (x y : Transition) → Memᴰ x ts.transitions → Memᴰ y ts.transitions → Alike (through m x) (through m y) → T (enters r x) → T (enters r y)
      en r i x y kx ky (inl h) w = absurd (contra (elem x.source r) (enters_e ts r e x w).0 (both_in r i x.target x.source (b.target x kx) (sym h.0) (enters_e ts r e x w).1))
      en r i x y kx ky (inr h) w =
          enters_i ts r e y (both_out r i x.source y.source (b.source y ky) h.0 (enters_e ts r e x w).0) (both_in r i x.target y.target (b.target x kx) h.1 (enters_e ts r e x w).1)

      ex : (r : Place) → Memᴰ r m.places → (x y : Transition) → Memᴰ x ts.transitions → Memᴰ y ts.transitions → Alike (through m x) (through m y) → T (exits r x) → T (exits r y)
      ex r i x y kx ky (inl h) w = absurd (contra (elem x.target r) (exits_e ts r e x w).1 (both_in r i x.source x.target (b.source x kx) h.0 (exits_e ts r e x w).0))
      ex r i x y kx ky (inr h) w =
          exits_i ts r e y (both_in r i x.source y.source (b.source x kx) h.0 (exits_e ts r e x w).0) (both_out r i x.target y.target (b.target y ky) h.1 (exits_e ts r e x w).1)

  -- any two transitions of a uniform event are alike
  pub uniform_alike :
      T (every (uniform ts e) m.places) → (t u : Transition) → Memᴰ t ts.transitions → Memᴰ u ts.transitions → t.event ≡ e → u.event ≡ e
      → Alike (through m t) (through m u)
  uniform_alike h t u kt ku et eu = go (dec (eqb (place_of m t.source) (place_of m t.target))) (dec (eqb (place_of m u.source) (place_of m u.target)))
    where
      like : (x y : Transition) → Memᴰ x ts.transitions → Memᴰ y ts.transitions → x.event ≡ e → y.event ≡ e → T (not (eqb (place_of m x.source) (place_of m x.target)))
          → (place_of m y.source ≡ place_of m x.source) × (place_of m y.target ≡ place_of m x.target)
      like x y kx ky qx qy n = (
        uniform_pre ts m b g e (every_elim (uniform ts e) m.places h) x y kx ky qx qy (apart (place_of m x.source) (place_of m x.target) n),
        uniform_post ts m b g e (every_elim (uniform ts e) m.places h) x y kx ky qx qy (apart (place_of m x.source) (place_of m x.target) n),
      )

      go : T (eqb (place_of m t.source) (place_of m t.target)) ⊎ T (not (eqb (place_of m t.source) (place_of m t.target))) → T (eqb (place_of m u.source) (place_of m u.target)) ⊎ T (not (eqb (place_of m u.source) (place_of m u.target)))
          → Alike (through m t) (through m u)
      go (inl x) (inl y) = inl (eqb→eq (place_of m t.source) (place_of m t.target) x, eqb→eq (place_of m u.source) (place_of m u.target) y)
      go (inl x) (inr y) = inr (like u t ku kt eu et y)
      go (inr x) w = let q = like t u kt ku et eu x in inr (sym q.0, sym q.1)

  -- the move of a level event
  pub level_move : (t : Transition) → Level ts m e t → move ts m e ≡ cond (eqb (place_of m t.source) (place_of m t.target)) none (some (move_of m t))
  level_move t v = go (move_view ts m e)
    where
      go : MoveView ts m e → move ts m e ≡ cond (eqb (place_of m t.source) (place_of m t.target)) none (some (move_of m t))
      go (stays q s) = q ∙ sym (cond_true (eqb (place_of m t.source) (place_of m t.target)) none (some (move_of m t)) (eqb_of (place_of m t.source) (place_of m t.target) (s t v.listed v.label)))
      go (moves u q k h n) = along (v.alike u k h)
        where
          along : Alike (through m t) (through m u) → move ts m e ≡ cond (eqb (place_of m t.source) (place_of m t.target)) none (some (move_of m t))
          along (inl w) = absurd (n w.1)
          along (inr w) =
              let other : T (not (eqb (place_of m t.source) (place_of m t.target))) = neqb (place_of m t.source) (place_of m t.target) (λ z. n (sym w.0 ∙ z ∙ w.1)) in
              let p = w.0 in
              let p2 = w.1 in
              cc (cond_false (eqb (place_of m t.source) (place_of m t.target)) none (some (move_of m t)) other)
