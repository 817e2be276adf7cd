-- The first transition that leads from a state by an event, by the rows.
use Prim.Native.Nat.{ℕ, ◌<◌}
use native.Mathlib.Omega.{arith}
use mathlib.Core.Path.{◌≡◌}
use mathlib.Core.List.{List}
use lib.Dec.{T, eqb, eqb→eq}
use lib.ListN.{length}
use Rattle.model.specs.Lists.{index}
use Rattle.model.specs.TransitionSystem.{leads}
use Rattle.model.proofs.Laws.{and_l, and_r, and_i, not_T, eqb_of}
use Rattle.rows.specs.Told.{entry, transition_at, first_transitions}
use Rattle.rows.proofs.Searches.{Upto, index_is}
use Rattle.rows.proofs.Fronts.{front_length, front_at}

-- transition k of the rows leads from s by e
pub record LeadsAt (source event : List ℕ) (s e k : ℕ) : Type 0 where
  pub from : entry source k ≡ s
  pub label : entry event k ≡ e

module _ {source event : List ℕ} {s e : ℕ} (targets : List ℕ) where
  leads_at : (j : ℕ) → T (leads s e (transition_at source event targets j)) → LeadsAt source event s e j
  unfolding leads
  leads_at j t =
      record {
        from = eqb→eq (entry source j) s (and_l (eqb (entry source j) s) (eqb (entry event j) e) t);
        label = eqb→eq (entry event j) e (and_r (eqb (entry source j) s) (eqb (entry event j) e) t);
      }

  at_leads : (j : ℕ) → LeadsAt source event s e j → T (leads s e (transition_at source event targets j))
  unfolding leads
  at_leads j h =
      and_i (eqb (entry source j) s) (eqb (entry event j) e) (eqb_of (entry source j) s h.from) (eqb_of (entry event j) e h.label)

  -- the search stops at a transition that leads so, or at the end
  pub leading : {n k : ℕ} → Upto (λ j. LeadsAt source event s e j → ⊥) n k → (k < n → LeadsAt source event s e k)
      → k ≡ index (leads s e) (first_transitions source event targets n)
  leading {n} {k} p h =
      let size : length (first_transitions source event targets n) ≡ n = front_length source event targets n in
      let one = transition_at source event targets k in
      index_is (leads s e) (first_transitions source event targets n) one k (omega (arith, p.most))
      (λ j l. rw (front_at source event targets n j one (omega (arith, p.most))) (not_T (leads s e (transition_at source event targets j)) (λ t. p.each j l (leads_at j t))))
      (λ l. rw (front_at source event targets n k one (omega arith)) (at_leads k (h (omega arith))))
