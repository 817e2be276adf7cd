-- One machine beside the others: their positions, and where a machine does not block.
use Prim.Native.Nat.{ℕ, zero, suc, ◌+◌, ◌*◌, ◌<◌}
use native.Mathlib.Omega.{arith}
use mathlib.Core.Path.{◌≡◌, refl, ap, sym, ◌∙◌}
use mathlib.Core.Logic.{◌⊎◌, inl, inr, ◌↔◌}
use mathlib.Core.Bool.{Bool, not, ◌||◌}
use mathlib.Core.List.{List, [], ◌∷◌, ◌++◌, Memᴰ}
use mathlib.Core.Option.{none, some, some-injective}
use lib.Dec.{T, ltb, ltb→lt}
use lib.ListN.{length}
use Rattle.model.specs.Lists.{At}
use Rattle.model.specs.TransitionSystem.{TransitionSystem}
use Rattle.model.specs.Machine.{Machine, place_of, move, ready}
use Rattle.model.proofs.Laws.{dec, contra, or_l, or_r, or_e, cond_false}
use Rattle.model.proofs.Positions.{at_mem, mem_at}
use Rattle.rows.specs.Told.{entry}
use Rattle.regions.specs.Moves.{move_at}
use Rattle.closure.specs.Covers.{on_machine}
use Rattle.merging.proofs.Middle.{ready_none, ready_some}
use Rattle.merging.proofs.Telling.{move_on_lem}

-- ---- one of the machines beside others

module _ {A : Type 0} (m : A) (back : List A) where
  -- the others, by their positions
  pub other_at : (front : List A) (x : A) → Memᴰ x (front ++ back) → (k : ℕ) × At (front ++ (m ∷ back)) k x × (¬ (k ≡ length front))
  other_at [] x i = let w = mem_at back x i in (suc w.0, w.1, λ e. omega arith)
  other_at (y ∷ front) x (Memᴰ.head e) = (0, ap some (sym e), λ q. omega arith)
  other_at (y ∷ front) x (Memᴰ.tail i) = let w = other_at front x i in (suc w.0, w.1, λ q. w.2 (omega arith))

  pub at_other : (front : List A) (k : ℕ) (x : A) → At (front ++ (m ∷ back)) k x → ¬ (k ≡ length front) → Memᴰ x (front ++ back)
  at_other [] zero x a n = absurd (n refl)
  at_other [] (suc k) x a n = at_mem back k x a
  at_other (y ∷ front) zero x a n = Memᴰ.head (sym (some-injective y x a))
  at_other (y ∷ front) (suc k) x a n = Memᴰ.tail (at_other front k x a (λ e. n (ap suc e)))

  -- another in its place
  pub replaced : (n : A) (front : List A) (k : ℕ) (x : A) → At (front ++ (n ∷ back)) k x → ¬ (k ≡ length front) → At (front ++ (m ∷ back)) k x
  replaced n [] zero x a d = absurd (d refl)
  replaced n [] (suc k) x a d = a
  replaced n (y ∷ front) zero x a d = a
  replaced n (y ∷ front) (suc k) x a d = replaced n front k x a (λ e. d (ap suc e))

-- ---- where a machine does not block, by its moves in the rows and its places as sets

module _ (ts : TransitionSystem) (y : Machine) (pre post : List ℕ) (k e i : ℕ) (told : move_at pre post k e ≡ move ts y e) (inPlace : ℕ → Bool)
    (has : (q : ℕ) → q < 64 → T (inPlace q) ↔ (place_of y i ≡ q)) where
  pub ready_row : T (not (on_machine pre e k) || inPlace (entry pre (e * 16 + k))) ↔ T (ready ts e i y)
  unfolding on_machine move_at
  ready_row = go (dec (ltb (entry pre (e * 16 + k)) 64))
    where
      go : T (ltb (entry pre (e * 16 + k)) 64) ⊎ T (not (ltb (entry pre (e * 16 + k)) 64)) → T (not (ltb (entry pre (e * 16 + k)) 64) || inPlace (entry pre (e * 16 + k))) ↔ T (ready ts e i y)
      go (inl t) =
          let l = ltb→lt (entry pre (e * 16 + k)) 64 t in
          let r = ready_some ts y e i (record { pre = entry pre (e * 16 + k); post = entry post (e * 16 + k) }) (sym told ∙ move_on_lem pre post k e l) in
          (λ u. r.1 ((has (entry pre (e * 16 + k)) l).0 (here u)), λ u. or_r (not (ltb (entry pre (e * 16 + k)) 64)) (inPlace (entry pre (e * 16 + k))) ((has (entry pre (e * 16 + k)) l).1 (r.0 u)))
        where
          here : T (not (ltb (entry pre (e * 16 + k)) 64) || inPlace (entry pre (e * 16 + k))) → T (inPlace (entry pre (e * 16 + k)))
          here u = pick (or_e (not (ltb (entry pre (e * 16 + k)) 64)) (inPlace (entry pre (e * 16 + k))) u)
            where
              pick : T (not (ltb (entry pre (e * 16 + k)) 64)) ⊎ T (inPlace (entry pre (e * 16 + k))) → T (inPlace (entry pre (e * 16 + k)))
              pick (inl n) = absurd (contra (ltb (entry pre (e * 16 + k)) 64) n t)
              pick (inr n) = n
      go (inr t) = (
        λ u. ready_none ts y e i (sym told ∙ cond_false (ltb (entry pre (e * 16 + k)) 64) _ none t),
        λ u. or_l (not (ltb (entry pre (e * 16 + k)) 64)) (inPlace (entry pre (e * 16 + k))) t,
      )
