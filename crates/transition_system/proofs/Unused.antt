-- 6: an event has no transition where no state excites it.
use Prim.Native.Nat.{ℕ, ◌<◌, ◌≤◌}
use native.Mathlib.Omega.{arith}
use mathlib.Core.Path.{◌≡◌, sym, ap, ◌∙◌}
use mathlib.Core.Bool.{Bool, true, false, not}
use mathlib.Core.List.{List}
use mathlib.Core.Option.{none, some, some-ne-none}
use lib.Dec.{T, eqb, eqb_refl}
use Rattle.model.specs.Lists.{exists, lowest}
use Rattle.model.specs.TransitionSystem.{Transition, TransitionSystem, leads, unused_event}
use Rattle.model.proofs.Bounds.{Within}
use Rattle.model.proofs.Laws.{not_T, contra, and_i, and_r, exists_intro, exists_elim, not_exists, lowest_none, none_lowest, lowest_is}
use Rattle.state_set.specs.declared.StateSet.{StateSet}
use Rattle.std.specs.Prelude.{is_some}
use Rattle.std.specs.Prelude as Std
use Rattle.state_set.specs.Member.{member, state_found}
use Rattle.state_set.specs.Rows.{set_at, member_at}
use Rattle.transition_system.specs.Sets.{Excitations}
use Rattle.transition_system.proofs.Counting.{finds_none, finds_some}

-- no state is in the set of e
abbrev pub Idle : List ℕ → ℕ → Type 0
Idle row e = lowest (member (set_at row e)) 256 ≡ none

-- what `load` and `lowest` gave, in that order
module _ (row : List ℕ) (e : ℕ) {set : StateSet} (r : Std.Option ℕ) (p : set ≡ set_at row e) (q : state_found r ≡ lowest (member set) 256) where
  pub nothing_idle : is_some r ≡ false → Idle row e
  nothing_idle n = rw (← p) (sym (finds_none r q n))

  pub state_excites : is_some r ≡ true → Idle row e → ⊥
  state_excites n i = let (s, g) = finds_some r q n in some-ne-none s (g ∙ rw p i)

-- the event e has a transition
abbrev used : TransitionSystem → ℕ → Bool
used ts e = exists (λ (t : Transition). eqb t.event e) ts.transitions

module _ (ts : TransitionSystem) {row : List ℕ} (x : Excitations ts.transitions row) (e : ℕ) (l : e < 64) where
  idle_unused : Within ts → ts.states ≤ 256 → Idle row e → T (not (used ts e))
  unfolding member_at leads
  idle_unused w b i =
      not_exists (λ (t : Transition). eqb t.event e) ts.transitions λ t m.
      not_T (eqb t.event e) λ u.
      contra (member_at row e t.source) (lowest_none (member (set_at row e)) 256 i t.source (omega (arith, w.source t m)))
      (rw (x.members e t.source l)
      (exists_intro (leads t.source e) ts.transitions t m (and_i (eqb t.source t.source) (eqb t.event e) (eqb_refl t.source) u)))

  unused_idle : T (not (used ts e)) → Idle row e
  unfolding member_at leads
  unused_idle n =
      none_lowest (member (set_at row e)) 256 λ s _.
      not_T (member_at row e s) λ u.
      let (t, m, v) = exists_elim (leads s e) ts.transitions (rw (x.members e s l) at u) in
      contra (used ts e) n
      (exists_intro (λ (t : Transition). eqb t.event e) ts.transitions t m (and_r (eqb t.source s) (eqb t.event e) v))

-- the search stops at an event that no state excites, or comes to the end
module _ {row : List ℕ} {n : ℕ} (h : n ≤ 64) (ts : TransitionSystem) (w : Within ts) (b : ts.states ≤ 256) (q : ts.events ≡ n) (x : Excitations ts.transitions row) where
  used_before : (e : ℕ) → e ≤ n → ((j : ℕ) → j < e → Idle row j → ⊥) → (j : ℕ) → j < e → T (not (not (used ts j)))
  used_before e m s j l = not_T (not (used ts j)) λ u. s j l (unused_idle ts x j (omega arith) u)

  pub unused_found : {e : ℕ} → e < n → ((j : ℕ) → j < e → Idle row j → ⊥) → Idle row e → some e ≡ unused_event ts
  unfolding unused_event
  unused_found {e} m s i =
      sym (lowest_is (λ e. not (used ts e)) n e m (idle_unused ts x e (omega arith) w b i) (used_before e (omega arith) s))
      ∙ ap (lowest (λ e. not (used ts e))) (sym q)

  pub all_used : ((j : ℕ) → j < n → Idle row j → ⊥) → none ≡ unused_event ts
  unfolding unused_event
  all_used s = sym (none_lowest (λ e. not (used ts e)) n (used_before n (omega arith) s)) ∙ ap (lowest (λ e. not (used ts e))) (sym q)
