-- 4 to 7 together: what the parts of the check answer, and what the whole then answers.
use Prim.Native.Nat.{ℕ, ◌*◌, ◌≤◌}
use native.Mathlib.Omega.{arith}
use mathlib.Core.Path.{◌≡◌, refl, sym, ap, ◌∙◌}
use mathlib.Core.List.{List, []}
use mathlib.Core.Option.{none, some-ne-none, or_else}
use lib.Dec.{T, eqb, eqb→eq}
use lib.ListN.{length, replicate}
use Rattle.model.specs.declared.Refusal as D
use Rattle.model.specs.declared.Refusal.TheVariants.{UnusedEvent, Unreachable}
use Rattle.model.specs.Cases.{tabled}
use Rattle.model.specs.Lists.{exists}
use Rattle.model.specs.TransitionSystem.{Transition, transitions_refusal, unused_event, unreachable_state, system_refusal}
use Rattle.model.proofs.Laws.{and_r, exists_elim}
use Rattle.rows.specs.declared.Tables.{Tables}
use Rattle.std.specs.Prelude.{Result, Ok, Err, Some, None}
use Rattle.std.specs.Prelude as Std
use Rattle.rows.specs.Bounded.{Bounded}
use Rattle.rows.specs.Tables.{verdict_refusal}
use Rattle.rows.specs.Told.{first_transitions, system_of}
use Rattle.rows.proofs.Fronts.{within_tables}
use Rattle.state_set.specs.Member.{state_found}
use Rattle.state_set.specs.Rows.{member_at}
use Rattle.state_set.proofs.Rows.{empty_row}
use Rattle.transition_system.specs.Sets.{Unused, Unreached, Excitations, joins, Has, Successors, Closed, SetsOf}

-- a fresh row has the successors of no transition
pub no_successors : (n : ℕ) → Successors [] (replicate n 0)
unfolding exists
no_successors n = record { members = λ s u l. empty_row n s u }

-- the transitions that the tables hold
abbrev held : Tables → List Transition
held p = first_transitions p.source p.event p.target p.counts.transitions

-- what the whole check answers
abbrev Checks : Tables → Result (Unit {0}) D.Refusal → List ℕ → Type 0
Checks p v excited = (verdict_refusal v ≡ system_refusal (system_of p)) × (verdict_refusal v ≡ none → Excitations (system_of p).transitions excited)

-- 4 and 5 answer v, and leave the sets
module _
    {p : Tables} (b : Bounded p) {v : Result (Unit {0}) D.Refusal} {excited successors : List ℕ}
    (r : verdict_refusal v ≡ transitions_refusal [] (held p))
    (s : verdict_refusal v ≡ none → SetsOf (held p) excited successors) where
  pub fork_refuses : {why : D.Refusal} → v ≡ Err why → Checks p (Err why) excited
  unfolding verdict_refusal system_refusal system_of or_else
  fork_refuses e = (rw (← r, e), λ n. absurd (some-ne-none _ n))

  -- they pass
  module _ {t : Unit {0}} (e : v ≡ Ok t) where
    passes : transitions_refusal [] (held p) ≡ none
    unfolding verdict_refusal
    passes = sym r ∙ ap verdict_refusal e

    sets : SetsOf (held p) excited successors
    unfolding verdict_refusal
    sets = s (ap verdict_refusal e)

    -- a transition leads to a declared state
    pub closed : p.counts.states * 4 ≤ length successors → Closed successors
    unfolding system_of joins
    closed l = record { inside = inside }
      where
        inside : (s u : ℕ) → Has successors s → T (member_at successors s u) → Has successors u
        inside s u k m =
            let (t, i, q) = exists_elim (joins s u) (held p) (rw (sets.follows.members s u k) at m) in
            let target : t.target ≡ u = eqb→eq t.target u (and_r (eqb t.source s) (eqb t.target u) q) in
            omega (arith, (within_tables p b).target t i)

    unused_is : (x : Std.Option ℕ) → Unused excited p.counts.events x → state_found x ≡ unused_event (system_of p)
    unfolding system_of
    unused_is x u = u (system_of p) (within_tables p b) b.states refl sets.excitations

    unreached_is : (y : Std.Option ℕ) → Unreached successors p.counts.initial p.counts.states y → state_found y ≡ unreachable_state (system_of p)
    unfolding system_of
    unreached_is y w = w (system_of p) (within_tables p b) refl refl sets.follows

    pub event_refuses : (x : ℕ) → Unused excited p.counts.events (Some x) → Checks p (Err (UnusedEvent x)) excited
    unfolding verdict_refusal tabled system_refusal system_of or_else state_found
    event_refuses x u = (rw (passes, ← unused_is (Some x) u), λ n. absurd (some-ne-none _ n))

    -- 6 passes
    module _ (u : Unused excited p.counts.events None) where
      pub state_refuses : (y : ℕ) → Unreached successors p.counts.initial p.counts.states (Some y) → Checks p (Err (Unreachable y)) excited
      unfolding verdict_refusal tabled system_refusal system_of or_else state_found
      state_refuses y w = (rw (passes, ← unused_is None u, ← unreached_is (Some y) w), λ n. absurd (some-ne-none _ n))

      pub all_pass : Unreached successors p.counts.initial p.counts.states None → Checks p (Ok tt) excited
      unfolding verdict_refusal system_refusal system_of or_else state_found
      all_pass w = (rw (passes, ← unused_is None u, ← unreached_is None w), λ _. sets.excitations)
