-- One state marked, the number of a place, and that all states are declared.
use Prim.Native.Nat.{ℕ, suc, ◌<◌, ◌≤◌}
use mathlib.Core.Path.{◌≡◌, sym, ◌∙◌}
use mathlib.Core.Logic.{◌⊎◌, inl, inr}
use mathlib.Core.Bool.{true, false, not, cond, ◌&&◌, and-true, and-false, and_assoc}
use mathlib.Core.List.{List, [], ◌∷◌}
use borrow.Author.Tests.{lt-ltb, le-ltb, eq-eqb, ne_eqb, eqb-false}
use lib.Dec.{T, ltb, eqb, eqb→eq}
use lib.ListN.{get_or, set}
use Rattle.model.specs.Lists.{every}
use Rattle.model.specs.Machine.{Place}
use Rattle.model.proofs.Laws.{dec, order, T_true, T_false}
use Rattle.lines.specs.Lines.{all_below}
use Rattle.lines.specs.Marking.{Marking, marked, marked_all, marked_places, up_to64}

-- two numbers are one or not
pub eqb_case : {C : Type 0} (x y : ℕ) → (y ≡ x → eqb y x ≡ true → C) → ((y ≡ x → ⊥) → eqb y x ≡ false → C) → C
eqb_case {C} x y f g = go (dec (eqb y x))
  where
    go : T (eqb y x) ⊎ T (not (eqb y x)) → C
    go (inl t) = f (eqb→eq y x t) (T_true (eqb y x) t)
    go (inr t) = g (eqb-false y x (T_false (eqb y x) t)) (T_false (eqb y x) t)

-- one state
module _ (n p : ℕ) (m : Marking) (x : ℕ) where
  pub marked_out : n ≤ x → marked n p m x ≡ record { declared = false; duplicate = m.duplicate; row = m.row }
  unfolding marked
  marked_out h = rw (le-ltb x n h)

  module _ (h : x < n) where
    pub marked_fresh : get_or m.row x 0 ≡ 255 → marked n p m x ≡ record { declared = m.declared; duplicate = m.duplicate; row = set m.row x p }
    unfolding marked
    marked_fresh e = rw (lt-ltb x n h, eq-eqb (get_or m.row x 0) 255 e)

    pub marked_again : (get_or m.row x 0 ≡ 255 → ⊥)
        → marked n p m x ≡ record { declared = m.declared; duplicate = cond (ltb x m.duplicate) x m.duplicate; row = m.row }
    unfolding marked
    marked_again e = rw (lt-ltb x n h, ne_eqb (get_or m.row x 0) 255 e)

    pub marked_lower : (get_or m.row x 0 ≡ 255 → ⊥) → x < m.duplicate → marked n p m x ≡ record { declared = m.declared; duplicate = x; row = m.row }
    marked_lower e l = rw (marked_again e, lt-ltb x m.duplicate l)

    pub marked_same : (get_or m.row x 0 ≡ 255 → ⊥) → m.duplicate ≤ x → marked n p m x ≡ m
    marked_same e l = rw (marked_again e, le-ltb x m.duplicate l)

-- the number of a place
pub own_number : (k : ℕ) → k < 64 → up_to64 k ≡ k
unfolding up_to64
own_number k h = rw (lt-ltb k 64 h)

pub past_number : (k : ℕ) → 64 ≤ k → up_to64 k ≡ 64
unfolding up_to64
past_number k h = rw (le-ltb k 64 h)

-- the states that are left of place p, and then the places from number k on
abbrev pub rest : ℕ → ℕ → ℕ → Marking → List ℕ → List Place → Marking
rest n p k m xs ps = marked_places n k (marked_all n p m xs) ps

-- a proof of P by the states and the places that are left: P at the end, before a place and before a state
module _ (n : ℕ) (P : ℕ → ℕ → Marking → List ℕ → List Place → Type 0) where
  module _ (one : (p k : ℕ) (m : Marking) (x : ℕ) (xs : List ℕ) (ps : List Place) → P p k (marked n p m x) xs ps → P p k m (x ∷ xs) ps) where
    pub states : (ps : List Place) → ((p k : ℕ) (m : Marking) → P p k m [] ps) → (p k : ℕ) (m : Marking) (xs : List ℕ) → P p k m xs ps
    states ps h p k m [] = h p k m
    states ps h p k m (x ∷ xs) = one p k m x xs ps (states ps h p k (marked n p m x) xs)

    pub places : ((p k : ℕ) (m : Marking) → P p k m [] [])
        → ((p k : ℕ) (m : Marking) (ys : List ℕ) (ps : List Place) → P (up_to64 k) (suc k) m ys ps → P p k m [] (ys ∷ ps))
        → (ps : List Place) (p k : ℕ) (m : Marking) → P p k m [] ps
    places end turn [] p k m = end p k m
    places end turn (ys ∷ ps) p k m = turn p k m ys ps (states ps (places end turn ps) (up_to64 k) (suc k) m ys)

-- all states are declared
declared_one : (n p : ℕ) (m : Marking) (x : ℕ) → (marked n p m x).declared ≡ (m.declared && ltb x n)
declared_one n p m x = go (order x n)
  where
    go : (x < n) ⊎ (n ≤ x) → (marked n p m x).declared ≡ (m.declared && ltb x n)
    go (inl h) =
        rw (lt-ltb x n h, and-true)
        (eqb_case 255 (get_or m.row x 0) (λ e _. rw (marked_fresh n p m x h e)) (λ e _. rw (marked_again n p m x h e)))
    go (inr h) = rw (marked_out n p m x h, le-ltb x n h, and-false)

pub declared_places : (n k : ℕ) (m : Marking) (ps : List Place) → (marked_places n k m ps).declared ≡ (m.declared && all_below n ps)
unfolding marked_places marked_all all_below every
declared_places n k m ps =
    places n (λ p k m xs ps. (rest n p k m xs ps).declared ≡ (m.declared && (every (λ x. ltb x n) xs && every (every (λ x. ltb x n)) ps)))
    (λ p k m x xs ps e. e ∙ simp (declared_one n p m x, and_assoc))
    (λ p k m. sym (and-true m.declared))
    (λ p k m ys ps e. e)
    ps 0 k m
