-- The rows' crossings are those of the machine that the rows give: so what the code compares in the rows tells whether an event is uniform, and its move.
use Prim.Native.Nat.{ℕ, ◌+◌, ◌*◌, ◌<◌}
use mathlib.Core.Path.{◌≡◌, ap, sym, ◌∙◌, subst}
use mathlib.Core.Logic.{◌⊎◌, inl, inr}
use mathlib.Core.Bool.{not, cond}
use mathlib.Core.List.{List, Memᴰ}
use mathlib.Core.Option.{Option, none, some}
use lib.Dec.{T, eqb, ltb}
use borrow.Author.Tests.{lt-ltb}
use Rattle.model.specs.Lists.{every}
use Rattle.model.specs.TransitionSystem.{Transition, TransitionSystem}
use Rattle.model.specs.Product.{Move}
use Rattle.model.specs.Machine.{Machine, place_of, move, uniform}
use Rattle.model.proofs.Laws.{dec, T_true, T_false, contra, not_T}
use Rattle.rows.specs.Told.{entry, transition_at}
use Rattle.rows.proofs.Fronts.{at_listed, front_member}
use Rattle.regions.specs.Moves.{move_at}
use Rattle.regions.specs.Crossings.{crossing_at, agreeing, pre_mark, Scannable}
use Rattle.regions.proofs.crossings.Alike.{Alike, agreeing_alike, alike_agreeing, through, Level, uniform_alike, level_move}

module _ (ts : TransitionSystem) (mach : Machine) (m : ℕ) (source event target place : List ℕ) (n : ℕ) (s : Scannable ts mach m source event target place n) where
  here : (k : ℕ) → k < n → Memᴰ (transition_at source event target k) ts.transitions
  here k l = rw s.transitions (at_listed source event target n k l)

  crossed : (k : ℕ) → k < n → crossing_at source target place m k ≡ through mach (transition_at source event target k)
  unfolding crossing_at
  crossed k l =
      let p = s.told (entry source k) (s.within.source (transition_at source event target k) (here k l)) in
      let q = s.told (entry target k) (s.within.target (transition_at source event target k) (here k l)) in
      cc

  alike_at_lem : (f k : ℕ) → f < n → k < n → T (agreeing (crossing_at source target place m f) (crossing_at source target place m k))
      → Alike (through mach (transition_at source event target f)) (through mach (transition_at source event target k))
  alike_at_lem f k lf lk h =
      agreeing_alike (through mach (transition_at source event target f)) (through mach (transition_at source event target k)) (rw (crossed f lf, crossed k lk) at h)

  -- the code has found no transition that leads otherwise than f
  pub rows_level :
      (e f : ℕ) → f < n → entry event f ≡ e
      → ((k : ℕ) → k < n → entry event k ≡ e → T (agreeing (crossing_at source target place m f) (crossing_at source target place m k)))
      → Level ts mach e (transition_at source event target f)
  rows_level e f l q h = record { listed = here f l; label = q; alike = alike }
    where
      alike : (u : Transition) → Memᴰ u ts.transitions → u.event ≡ e → Alike (through mach (transition_at source event target f)) (through mach u)
      alike u i r =
          let w = front_member source event target n u (rw s.transitions at i) in
          let v = alike_at_lem f w.0 l w.1 (h w.0 w.1 (sym (ap (λ (t : Transition). t.event) w.2) ∙ r)) in
          subst (λ (t : Transition). Alike (through mach (transition_at source event target f)) (through mach t)) (sym w.2) v

  -- the code has found one that does
  pub rows_uneven :
      (e f k : ℕ) → f < n → k < n → entry event f ≡ e → entry event k ≡ e
      → T (not (agreeing (crossing_at source target place m f) (crossing_at source target place m k))) → T (not (every (uniform ts e) mach.places))
  rows_uneven e f k lf lk qf qk h =
      not_T (every (uniform ts e) mach.places)
      (λ u. contra (agreeing (through mach (transition_at source event target f)) (through mach (transition_at source event target k))) (rw (crossed f lf, crossed k lk) at h)
      (alike_agreeing (through mach (transition_at source event target f)) (through mach (transition_at source event target k))
      (uniform_alike ts mach s.within s.placed e u (transition_at source event target f) (transition_at source event target k) (here f lf) (here k lk) qf qk)))

  -- the move that the code writes
  pub rows_move :
      (pre post : List ℕ) (e f : ℕ) → f < n → Level ts mach e (transition_at source event target f)
      → entry pre (e * 16 + m) ≡ pre_mark (crossing_at source target place m f) → entry post (e * 16 + m) ≡ (crossing_at source target place m f).post
      → move_at pre post m e ≡ move ts mach e
  unfolding move_at pre_mark
  rows_move pre post e f l v p q =
      rw (p, q, crossed f l) (go (place_of mach (entry source f)) (place_of mach (entry target f)) (s.low (entry source f) (s.within.source (transition_at source event target f) (here f l))))
      ∙ sym (level_move ts mach s.within s.placed e (transition_at source event target f) v)
    where
      go : (x y : ℕ) → x < 64
          → ◌≡◌ {A = Option Move} (cond (ltb (cond (eqb x y) 255 x) 64) (some (record { pre = cond (eqb x y) 255 x; post = y })) none) (cond (eqb x y) none (some (record { pre = x; post = y })))
      go x y b = at (dec (eqb x y))
        where
          at : T (eqb x y) ⊎ T (not (eqb x y))
              → ◌≡◌ {A = Option Move} (cond (ltb (cond (eqb x y) 255 x) 64) (some (record { pre = cond (eqb x y) 255 x; post = y })) none) (cond (eqb x y) none (some (record { pre = x; post = y })))
          at (inl t) = rw (T_true (eqb x y) t)
          at (inr t) = rw (T_false (eqb x y) t, lt-ltb x 64 b)
