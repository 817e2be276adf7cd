-- A machine whose places are unions of another's. What coarser machines cover, finer ones cover: a merge that was refused stays refused after other merges.
use Prim.Native.Nat.{ℕ, ◌<◌}
use mathlib.Core.Path.{◌≡◌, refl, sym, ◌∙◌}
use mathlib.Core.List.{[], ◌∷◌, Memᴰ}
use lib.Dec.{T, eqb→eq}
use mathlib.Core.Bool.{◌||◌}
use mathlib.Core.Logic.{◌⊎◌, inl, inr}
use Rattle.model.specs.Lists.{exists, every, is_some}
use Rattle.model.specs.TransitionSystem.{TransitionSystem}
use Rattle.model.specs.Product.{in_alphabet, effective}
use Rattle.model.specs.Machine.{Machine, Decomposition, place_of, move, in_pre, ready, common}
use Rattle.model.proofs.Laws.{and_l, and_r, and_i, or_l, or_r, or_e, eqb_of}
use Rattle.model.proofs.Bounds.{Within}
use Rattle.model.proofs.Places.{Good, same_pre}
use Rattle.model.proofs.Moves.{MoveView, moves, stays, move_view}
use Rattle.model.proofs.Simulate.{Covers}

-- states in one place of m are in one place of c
abbrev pub Coarser : TransitionSystem → Machine → Machine → Type 0
Coarser p c m = (s u : ℕ) → s < p.states → u < p.states → place_of m s ≡ place_of m u → place_of c s ≡ place_of c u

pub data CoarserAll (p : TransitionSystem) : Decomposition → Decomposition → Type 0 where
  nil : CoarserAll p [] []
  each : {c m : Machine} {cs ms : Decomposition} → Coarser p c m → CoarserAll p cs ms → CoarserAll p (c ∷ cs) (m ∷ ms)

pub coarser_refl : (p : TransitionSystem) (ms : Decomposition) → CoarserAll p ms ms
coarser_refl p [] = nil
coarser_refl p (m ∷ ms) = each (λ s u ls lu h. h) (coarser_refl p ms)

pub coarser_trans : (p : TransitionSystem) (cs bs ms : Decomposition) → CoarserAll p cs bs → CoarserAll p bs ms → CoarserAll p cs ms
coarser_trans p [] [] (m ∷ ms) _ x7 = elim x7 [ ]
coarser_trans p [] (b ∷ bs) ms x5 _ = elim x5 [ ]
coarser_trans p (c ∷ cs) [] ms x5 _ = elim x5 [ ]
coarser_trans p (c ∷ cs) (b ∷ bs) [] _ x9 = elim x9 [ ]
coarser_trans p [] [] [] nil nil = nil
coarser_trans p (c ∷ cs) (b ∷ bs) (m ∷ ms) (each f fs) (each g gs) = each (λ s u ls lu h. f s u ls lu (g s u ls lu h)) (coarser_trans p cs bs ms fs gs)

module _ (p : TransitionSystem) (b : Within p) where
  -- a transition that crosses the coarser machine crosses the finer one
  module _ (c m : Machine) (f : Coarser p c m) where
    alphabet_finer : (e : ℕ) → T (in_alphabet (move p) e c) → T (in_alphabet (move p) e m)
    unfolding in_alphabet is_some
    alphabet_finer e x = go (move_view p c e) (move_view p m e)
      where
        go : MoveView p c e → MoveView p m e → T (in_alphabet (move p) e m)
        go v (moves t q k he y) = rw q tt
        go (stays q s) (stays r u) = absurd (rw q at x)
        go (moves t q k he y) (stays r u) = absurd (y (f t.source t.target (b.source t k) (b.target t k) (u t k he)))

    -- where the finer machine does not block, the coarser one does not
    ready_coarser : Good p m → (e s : ℕ) → s < p.states → T (ready p e s m) → T (ready p e s c)
    unfolding ready in_pre
    ready_coarser g e s l x = go (move_view p c e) (move_view p m e)
      where
        go : MoveView p c e → MoveView p m e → T (in_pre c s (move p c e))
        go (stays q y) v = rw q tt
        go (moves t q k he y) (stays r u) = absurd (y (f t.source t.target (b.source t k) (b.target t k) (u t k he)))
        go (moves t q k he y) (moves u r j hu z) =
            rw q (eqb_of (place_of c s) (place_of c t.source)
            (f s t.source l (b.source t k)
            (eqb→eq (place_of m s) (place_of m u.source) (rw r at x) ∙ sym (same_pre p m b g e u t j k hu he z))))

  effective_finer : (cs ms : Decomposition) → CoarserAll p cs ms → (e : ℕ) → T (effective (move p) cs e) → T (effective (move p) ms e)
  unfolding effective exists
  effective_finer [] (m ∷ ms) x5 e x = elim x5 [ ]
  effective_finer (c ∷ cs) [] x6 e x = elim x6 [ ]
  effective_finer [] [] nil e x = x
  effective_finer (c ∷ cs) (m ∷ ms) (each f fs) e x = go (or_e (in_alphabet (move p) e c) (exists (in_alphabet (move p) e) cs) x) (effective_finer cs ms fs e)
    where
      go : T (in_alphabet (move p) e c) ⊎ T (exists (in_alphabet (move p) e) cs) → (T (exists (in_alphabet (move p) e) cs) → T (exists (in_alphabet (move p) e) ms)) → T (in_alphabet (move p) e m || exists (in_alphabet (move p) e) ms)
      go (inl y) ih = or_l (in_alphabet (move p) e m) (exists (in_alphabet (move p) e) ms) (alphabet_finer c m f e y)
      go (inr y) ih = or_r (in_alphabet (move p) e m) (exists (in_alphabet (move p) e) ms) (ih y)

  common_coarser : (cs ms : Decomposition) → CoarserAll p cs ms → ((m : Machine) → Memᴰ m ms → Good p m) → (e s : ℕ) → s < p.states → T (common p ms e s) → T (common p cs e s)
  unfolding common every
  common_coarser [] (m ∷ ms) x9 g e s l x = elim x9 [ ]
  common_coarser (c ∷ cs) [] x8 g e s l x = elim x8 [ ]
  common_coarser [] [] nil g e s l x = x
  common_coarser (c ∷ cs) (m ∷ ms) (each f fs) g e s l x =
      and_i (ready p e s c) (every (ready p e s) cs)
      (ready_coarser c m f (g m (Memᴰ.head refl)) e s l (and_l (ready p e s m) (every (ready p e s) ms) x))
      (common_coarser cs ms fs (λ v i. g v (Memᴰ.tail i)) e s l (and_r (ready p e s m) (every (ready p e s) ms) x))

  pub covers_finer : (cs ms : Decomposition) → CoarserAll p cs ms → ((m : Machine) → Memᴰ m ms → Good p m) → Covers p cs → Covers p ms
  covers_finer cs ms f g c =
      record {
        effective = λ e l. effective_finer cs ms f e (c.effective e l);
        closed = λ e l s k x. c.closed e l s k (common_coarser cs ms f g e s k x);
      }
