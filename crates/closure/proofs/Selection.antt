-- 11 and 12 of any selection of the machines, asked by two tests: `on e`, the event e is on one of them, and `in_all e i`, the state i is common to its pre-places
-- there. The search is over 256 numbers, so `in_all` is to fail past the states, if the event is on a machine at all.
use Prim.Native.Nat.{ℕ, ◌<◌, ◌≤◌}
use native.Mathlib.Omega.{arith}
use mathlib.Core.Path.{◌≡◌, refl, ap, sym, ◌∙◌}
use mathlib.Core.Bool.{Bool, true, false, not, ◌&&◌}
use mathlib.Core.List.{List}
use mathlib.Core.Option.{Option, none, some, map}
use lib.Dec.{T}
use Rattle.model.specs.Lists.{is_some, lowest}
use Rattle.model.specs.Refusal.{refuse}
use Rattle.model.specs.TransitionSystem.{TransitionSystem}
use Rattle.model.specs.Product.{effective}
use Rattle.model.specs.Machine.{Decomposition, common, excited, open_state, open_event, ineffective_event, closure_refusal, cover_refusal, move}
use Rattle.model.proofs.Laws.{T_true, not_not, is_some_none, or_else_none, none_or_else, map_none, lowest_none, none_lowest, Lowest, found, absent, lowest_view}
use Rattle.state_set.specs.Rows.{member_at}
use Rattle.transition_system.specs.Sets.{Excitations}
use Rattle.closure.specs.Covers.{open_refusal}
use Rattle.closure.proofs.Searches.{lowest_within, open_is, none_open, open_none}

-- ---- 11
module _ (ts : TransitionSystem) (ds : Decomposition) where
  pub effective_each : ineffective_event ts ds ≡ none → (e : ℕ) → e < ts.events → effective (move ts) ds e ≡ true
  unfolding ineffective_event
  effective_each n e l = T_true (effective (move ts) ds e) (not_not (effective (move ts) ds e) (lowest_none _ _ n e l))

  pub effective_all : ((e : ℕ) → e < ts.events → effective (move ts) ds e ≡ true) → ineffective_event ts ds ≡ none
  unfolding ineffective_event
  effective_all h = none_lowest _ _ (λ e l. rw (h e l) tt)

module _ (ts : TransitionSystem) (ds : Decomposition) (excitations : List ℕ) (told : Excitations ts.transitions excitations) (small : ts.states ≤ 256)
    (few : ts.events ≤ 64) (on : ℕ → Bool) (in_all : ℕ → ℕ → Bool) (on_same : (e : ℕ) → e < ts.events → on e ≡ effective (move ts) ds e)
    (in_all_same : (e i : ℕ) → e < ts.events → i < ts.states → in_all e i ≡ common ts ds e i)
    (in_all_past : (e i : ℕ) → e < ts.events → ts.states ≤ i → on e ≡ true → in_all e i ≡ false) where
  -- the lowest state common to the pre-places of event e and outside its excitation set
  abbrev lowest_open : ℕ → Option ℕ
  lowest_open e = lowest (λ i. in_all e i && not (member_at excitations e i)) 256

  -- ---- 12
  open_same : (e : ℕ) → e < ts.events → effective (move ts) ds e ≡ true → lowest_open e ≡ open_state ts ds e
  unfolding open_state excited
  open_same e l o =
      lowest_within _ _ ts.states 256 small (λ i b. rw (in_all_same e i l b, told.members e i (omega arith)))
      (λ i b. rw (in_all_past e i l b (on_same e l ∙ o)))

  pub closure_same : ((e : ℕ) → e < ts.events → effective (move ts) ds e ≡ true) → open_refusal lowest_open ts.events ≡ closure_refusal ts ds (open_event ts ds)
  unfolding closure_refusal open_event is_some
  closure_same o = go (lowest_view (λ (e : ℕ). is_some (open_state ts ds e)) ts.events)
    where
      shut : (e : ℕ) → e < ts.events → T (not (is_some (open_state ts ds e))) → lowest_open e ≡ none
      shut e l t = open_same e l (o e l) ∙ is_some_none (open_state ts ds e) t

      go : Lowest (λ (e : ℕ). is_some (open_state ts ds e)) ts.events → open_refusal lowest_open ts.events ≡ closure_refusal ts ds (open_event ts ds)
      go (absent q h) = none_open _ ts.events (λ e l. shut e l (h e l)) ∙ rw q
      go (found e q l t h) = at (open_state ts ds e) refl t
        where
          at : (s : Option ℕ) → open_state ts ds e ≡ s → T (is_some s) → open_refusal lowest_open ts.events ≡ closure_refusal ts ds (open_event ts ds)
          at none v u = absurd u
          at (some s) v u = open_is _ e ts.events s l (λ k b. shut k (omega arith) (h k b)) (open_same e l (o e l) ∙ v) ∙ rw (q, v)

  -- ---- 11 and 12 pass if and only if every event is on a machine and has no open state
  pub covers_all : ((e : ℕ) → e < ts.events → (on e ≡ true) × (lowest_open e ≡ none)) → cover_refusal ts ds ≡ none
  unfolding cover_refusal
  covers_all h =
      let o : (e : ℕ) → e < ts.events → effective (move ts) ds e ≡ true = λ e l. sym (on_same e l) ∙ (h e l).0 in
      none_or_else _ _ (ap (map (λ e. refuse 11 e 0)) (effective_all ts ds o)) (sym (closure_same o) ∙ none_open _ ts.events (λ e l. (h e l).1))

  pub covers_each : cover_refusal ts ds ≡ none → (e : ℕ) → e < ts.events → (on e ≡ true) × (lowest_open e ≡ none)
  unfolding cover_refusal
  covers_each n e l =
      let w = or_else_none _ _ n in
      let o = effective_each ts ds (map_none _ _ w.0) in
      (on_same e l ∙ o e l, open_none _ ts.events (closure_same o ∙ w.1) e l)
