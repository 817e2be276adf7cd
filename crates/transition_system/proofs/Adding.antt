-- One transition more: what 4 and 5 say of it, and of the sets that it goes into.
use Prim.Native.Nat.{ℕ, suc, ◌+◌, ◌<◌}
use native.Mathlib.Decide.{ℕ_discrete}
use mathlib.Core.Path.{◌≡◌, sym, ap, ◌∙◌}
use mathlib.Core.Bool.{Bool, true, false, and_comm}
use mathlib.Core.List.{List, [], ◌∷◌, ◌++◌}
use mathlib.Core.Option.{none, some-ne-none}
use borrow.Author.Tests.{eq-eqb, ne_eqb}
use lib.Dec.{eqb}
use Rattle.model.specs.declared.Refusal as D
use Rattle.model.specs.declared.Refusal.TheVariants.{SelfLoop, Nondeterministic}
use Rattle.model.specs.Cases.{tabled}
use Rattle.model.specs.Lists.{exists, index}
use Rattle.model.specs.TransitionSystem.{Transition, leads, transition_refusal}
use Rattle.std.specs.Prelude.{Result, Ok, Err}
use Rattle.rows.specs.Tables.{verdict_refusal}
use Rattle.rows.specs.Told.{entry, transition_at, first_transitions}
use Rattle.rows.proofs.Fronts.{exists_snoc, front_length}
use Rattle.state_set.specs.Rows.{member_at, Inserted}
use Rattle.transition_system.specs.Sets.{Excitations, Has, Successors, SetsOf, InRows, joins}

-- ---- one transition more in the sets
eqb_comm : (a b : ℕ) → eqb a b ≡ eqb b a
eqb_comm a b = elim (ℕ_discrete a b) [
  | yes e ↦ eq-eqb a b e ∙ sym (eq-eqb b a (sym e))
  | no n ↦ ne_eqb a b n ∙ sym (ne_eqb b a (λ e. n (sym e)))
]

module _ {ts : List Transition} (t : Transition) {old new : List ℕ} where
  excites_more : Excitations ts old → Inserted t.event t.source old new → Excitations (ts ++ (t ∷ [])) new
  unfolding leads
  excites_more x i = record { size = i.size ∙ x.size; members = at }
    where
      at : (e s : ℕ) → e < 64 → member_at new e s ≡ exists (leads s e) (ts ++ (t ∷ []))
      at e s l =
          rw (
            exists_snoc (leads s e) ts t,
            i.members e s,
            x.members e s l,
            eqb_comm t.source s,
            eqb_comm t.event e,
            and_comm (eqb s t.source) (eqb e t.event),
          )

  follows_more : Successors ts old → Inserted t.source t.target old new → Successors (ts ++ (t ∷ [])) new
  unfolding joins
  follows_more x i = record { members = at }
    where
      at : (s u : ℕ) → Has new s → member_at new s u ≡ exists (joins s u) (ts ++ (t ∷ []))
      at s u l =
          rw (exists_snoc (joins s u) ts t, i.members s u, x.members s u (rw i.size at l), eqb_comm t.source s, eqb_comm t.target u)

-- ---- what adding transition k of the rows answers
abbrev Added : List ℕ → List ℕ → List ℕ → ℕ → Result (Unit {0}) D.Refusal → List ℕ → List ℕ → Type 0
Added source event target k v excited successors =
    (verdict_refusal v ≡ transition_refusal (first_transitions source event target k) (transition_at source event target k))
    × (verdict_refusal v ≡ none → SetsOf (first_transitions source event target (suc k)) excited successors)

-- what `wide` and `contains_at` gave
pub tested : (row : List ℕ) (s : ℕ) {e w : ℕ} {r : Bool} → w ≡ e → r ≡ member_at row w s → r ≡ member_at row e s
tested row s p h = h ∙ ap (λ (e : ℕ). member_at row e s) p

-- transition k of the rows
module _ {source event target successors₀ : List ℕ} {k : ℕ} (rows : InRows source event target successors₀ k) where
  pub stands : {excited successors : List ℕ} → entry source k ≡ entry target k
      → Added source event target k (Err (SelfLoop (k + 3))) excited successors
  unfolding verdict_refusal tabled transition_refusal
  stands e =
      (rw (eq-eqb (entry source k) (entry target k) e, front_length source event target k), λ n. absurd (some-ne-none _ n))

  -- 4 has passed it. The sets are those of the transitions before it, and r says whether one of these leads from its source by its event
  module _
      {excited₀ : List ℕ} {r : Bool}
      (sets : SetsOf (first_transitions source event target k) excited₀ successors₀)
      (moves : entry source k ≡ entry target k → ⊥)
      (test : r ≡ member_at excited₀ (entry event k) (entry source k)) where
    exists_before : r ≡ exists (leads (entry source k) (entry event k)) (first_transitions source event target k)
    exists_before = test ∙ sets.excitations.members (entry event k) (entry source k) rows.label

    pub forks : {excited successors : List ℕ} {i : ℕ} → r ≡ true
        → i ≡ index (leads (entry source k) (entry event k)) (first_transitions source event target k)
        → Added source event target k (Err (Nondeterministic (k + 3) (i + 3))) excited successors
    unfolding verdict_refusal tabled transition_refusal
    forks t e = (
      rw (ne_eqb (entry source k) (entry target k) moves, ← exists_before, t, ← e, front_length source event target k),
      λ n. absurd (some-ne-none _ n),
    )

    pub enters : {excited successors : List ℕ} {v w : ℕ} → r ≡ false → v ≡ entry event k → Inserted v (entry source k) excited₀ excited
        → w ≡ entry source k → Inserted w (entry target k) successors₀ successors → Added source event target k (Ok tt) excited successors
    unfolding verdict_refusal transition_refusal first_transitions
    enters f p i q j = (
      rw (ne_eqb (entry source k) (entry target k) moves, ← exists_before, f),
      λ _. record {
        excitations = excites_more (transition_at source event target k) sets.excitations (rw p at i);
        follows = follows_more (transition_at source event target k) sets.follows (rw q at j);
      },
    )
