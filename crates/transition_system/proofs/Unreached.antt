-- The lowest state that is not reached, from a set of those that are.
use Prim.Native.Nat.{ℕ, ◌<◌, ◌≤◌}
use native.Mathlib.Omega.{arith}
use mathlib.Core.Path.{◌≡◌, refl, sym, ap, ◌∙◌}
use mathlib.Core.Logic.{◌⊎◌, inl, inr}
use mathlib.Core.Bool.{Bool, true, false, not, ◌&&◌}
use mathlib.Core.Option.{Option}
use lib.Dec.{T}
use borrow.Author.Tests.{lt-ltb}
use Rattle.model.specs.Lists.{elem, lowest}
use Rattle.model.specs.TransitionSystem.{TransitionSystem, and_then, unreachable_state}
use Rattle.model.specs.TransitionSystem as M
use Rattle.model.proofs.Laws.{order, T_true, Lowest, found, absent, lowest_view, none_lowest}
use Rattle.model.proofs.Bounds.{Within}
use Rattle.model.proofs.Reach.{Leads, here, by, reached_sound, reached_complete}
use Rattle.state_set.specs.declared.StateSet.{StateSet}
use Rattle.state_set.specs.Member.{member}
use Rattle.state_set.proofs.Sets.{full_set, full_member}
use Rattle.rows.specs.Told.{below}
use Rattle.rows.proofs.Searches.{below_out, searched, lowest_same}
use Rattle.transition_system.specs.Reaches.{Reaches}

-- the lowest below n is the lowest below a higher bound, where that is below n
lowest_under : (f : ℕ → Bool) (n m : ℕ) → n ≤ m → lowest f n ≡ and_then (lowest f m) (below n)
unfolding and_then
lowest_under f n m l = go (lowest_view f m)
  where
    go : Lowest f m → lowest f n ≡ and_then (lowest f m) (below n)
    go (absent e h) = none_lowest f n (λ i b. h i (omega arith)) ∙ rw e
    go (found k e b t h) = at (order k n) ∙ rw e
      where
        at : (k < n) ⊎ (n ≤ k) → lowest f n ≡ below n k
        at (inl c) = sym (searched f n k (omega arith) h (λ _. t))
        at (inr c) = none_lowest f n (λ i d. h i (omega arith)) ∙ sym (below_out n k c)

T-same : (a b : Bool) → (T a → T b) → (T b → T a) → a ≡ b
T-same true true f g = refl
T-same true false f g = absurd (f tt)
T-same false true f g = absurd (g tt)
T-same false false f g = refl

-- the set has the same states as the model's search
same_states : (ts : TransitionSystem) → Within ts → (set : StateSet) → Reaches ts set → (s : ℕ) → elem s (M.reached ts) ≡ member set s
same_states ts w set r s =
    T-same (elem s (M.reached ts)) (member set s) (λ x. inside s (reached_sound ts s x)) (λ x. reached_complete ts w s (r.only s (T_true (member set s) x)))
  where
    inside : (u : ℕ) → Leads ts u → T (member set u)
    inside u here = rw r.begins tt
    inside u (by t k l) = rw (r.closed t k (T_true (member set t.source) (inside t.source l))) tt

-- `rest`: all states but those of the set; `o`: the lowest of them
pub unreached_by : {set : StateSet} {n : ℕ} {o : Option ℕ} (rest : StateSet) → n ≤ 256
    → ((i : ℕ) → member rest i ≡ (member full_set i && not (member set i))) → o ≡ lowest (member rest) 256
    → (ts : TransitionSystem) → Within ts → ts.states ≡ n → Reaches ts set → and_then o (below n) ≡ unreachable_state ts
unfolding unreachable_state
unreached_by {set} {n} rest l d e ts w p r =
    ap (λ (x : Option ℕ). and_then x (below n)) e ∙ sym (lowest_under (member rest) n 256 l)
    ∙ lowest_same (member rest) (λ s. not (elem s (M.reached ts))) n
    (λ i b. d i ∙ rw (full_member i, lt-ltb i 256 (omega arith), same_states ts w set r i)) ∙ ap (lowest (λ s. not (elem s (M.reached ts)))) (sym p)
