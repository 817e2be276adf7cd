-- The transitions that three rows hold, from the front: how many, which stand where, and that fewer are the front of more.
use Prim.Native.Nat.{ℕ, zero, suc, ◌+◌, ◌<◌}
use native.Mathlib.Numerals.{add-one}
use native.Mathlib.Omega.{arith}
use mathlib.Core.Path.{◌≡◌, refl, sym, ap, ◌∙◌}
use mathlib.Core.Logic.{◌⊎◌, inl, inr}
use mathlib.Core.Bool.{Bool, ◌||◌, or-false}
use mathlib.Core.List.Memᴰ
use mathlib.Core.List.{List, [], ◌∷◌, ◌++◌, append_assoc, Memᴰ}
use lib.ListN.{length, get_or, length-append}
use lib.Seq.{get_or_at}
use Rattle.model.specs.Lists.{exists}
use Rattle.model.specs.TransitionSystem.{Transition}
use Rattle.model.proofs.Laws.{below_suc}
use Rattle.model.proofs.ListLaws.{exists_append}
use Rattle.model.proofs.Positions.{at_below, mem_at, at_value}
use Rattle.model.proofs.Bounds.{Within}
use Rattle.rows.specs.declared.Tables.{Tables}
use Rattle.rows.specs.Told.{transition_at, first_transitions, system_of}
use Rattle.rows.specs.Bounded.{Bounded}

-- one element more
pub exists_snoc : {A : Type 0} (f : A → Bool) (l : List A) (x : A) → exists f (l ++ (x ∷ [])) ≡ (exists f l || f x)
unfolding exists
exists_snoc f l x = exists_append f l (x ∷ []) ∙ ap (λ (b : Bool). exists f l || b) (or-false (f x))

module _ (sources events targets : List ℕ) where
  abbrev front : ℕ → List Transition
  front = first_transitions sources events targets

  abbrev nth : ℕ → Transition
  nth = transition_at sources events targets

  pub front_length : (n : ℕ) → length (front n) ≡ n
  unfolding first_transitions
  front_length zero = refl
  front_length (suc n) = length-append (front n) (nth n ∷ []) ∙ ap (λ (k : ℕ). k + 1) (front_length n) ∙ add-one n

  pub front_more : (k : ℕ) → front (k + 1) ≡ front k ++ (nth k ∷ [])
  unfolding first_transitions
  front_more k = ap front (add-one k)

  -- the transitions from k on
  pub front_rest : (k n : ℕ) → k < n → (ys : List Transition) × (front n ≡ front k ++ (nth k ∷ ys))
  unfolding first_transitions
  front_rest k zero l = absurd (omega arith)
  front_rest k (suc n) l = go (below_suc k n l) (front_rest k n)
    where
      go : (k < n) ⊎ (k ≡ n) → (k < n → (ys : List Transition) × (front n ≡ front k ++ (nth k ∷ ys)))
          → (ys : List Transition) × (front (suc n) ≡ front k ++ (nth k ∷ ys))
      go (inl m) ih =
          let (ys, e) = ih m in
          (ys ++ (nth n ∷ []), ap (λ (l : List Transition). l ++ (nth n ∷ [])) e ∙ append_assoc (front k) (nth k ∷ ys) (nth n ∷ []))
      go (inr e) ih = ([], ap (λ (j : ℕ). front (suc j)) (sym e))

  pub front_at : (n k : ℕ) (d : Transition) → k < n → get_or (front n) k d ≡ nth k
  front_at n k d l = let (ys, e) = front_rest k n l in rw e (get_or_at (front k) (nth k) ys d k (front_length k))

  -- the transition of a position is a member, and a member is the transition of a position
  pub at_listed : (n k : ℕ) → k < n → Memᴰ (nth k) (front n)
  at_listed n k l = let (ys, e) = front_rest k n l in rw e (Memᴰ.append_right (front k) (Memᴰ.head refl))

  pub front_member : (n : ℕ) (t : Transition) → Memᴰ t (front n) → (k : ℕ) × (k < n) × (t ≡ nth k)
  front_member n t m =
      let (k, a) = mem_at (front n) t m in
      let l : k < n = omega (arith, at_below (front n) k t a, front_length n) in
      (k, l, sym (at_value (front n) k t t a) ∙ front_at n k t l)

-- what reading leaves of the transition system that the tables hold
pub within_tables : (p : Tables) → Bounded p → Within (system_of p)
unfolding system_of
within_tables p b =
    record {
      initial = b.initial;
      source = λ t m. let (k, l, e) = front_member _ _ _ _ t m in rw e (b.source k l);
      event = λ t m. let (k, l, e) = front_member _ _ _ _ t m in rw e (b.event k l);
      target = λ t m. let (k, l, e) = front_member _ _ _ _ t m in rw e (b.target k l);
    }
