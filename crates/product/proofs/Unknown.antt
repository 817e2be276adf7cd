-- 14: the search for an event that is not declared, and what it tells of the list.
use Rattle.std.specs.Prelude.{Some, None, position}
use Rattle.std.specs.List.{position_or_len}
use Rattle.std.proofs.lemmas.List.Sums.{fails_before_first}
use Rattle.std.proofs.lemmas.List.Quantifiers.{position-Some}
use mathlib.Core.Logic.{◌⊎◌, inl, inr}
use Prim.Native.Nat.{ℕ, suc, ◌<◌, ◌≤◌}
use native.Mathlib.Omega.{arith}
use mathlib.Core.Path.{◌≡◌, refl, sym, ◌∙◌}
use mathlib.Core.Bool.{Bool, true, false, not, cond, ◌&&◌}
use mathlib.Core.List.{List, [], ◌∷◌}
use mathlib.Core.Option.{Option}
use borrow.Author.Tests.{lt-ltb, le-ltb, leb-true, leb-false}
use lib.Dec.{T, leb, ltb, ltb→lt, leb-suc-suc}
use lib.ListN.{length}
use Rattle.model.specs.Lists.{every, index}
use Rattle.model.specs.Refusal.{refused, passed}
use Rattle.model.specs.Cases.{tabled}
use Rattle.model.specs.TransitionSystem.{declared}
use Rattle.model.specs.Product.{Move, run_from}
use Rattle.model.specs.Services.{run_events}
use Rattle.model.specs.declared.Refusal.TheVariants.{UnknownEvent}
use Rattle.model.proofs.Laws.{order, every_elim}
use Rattle.model.proofs.Positions.{get_d_mem}
use Rattle.model.proofs.Refusing.{events_declared, events_unknown}
use Rattle.rows.specs.Told.{entry}
use Rattle.rows.proofs.Searches.{index_is}

-- the search stops at an event that is not declared
module _ (events : List ℕ) (n : ℕ) where
  abbrev unknown : ℕ → Bool
  unknown e = leb n e

  known_pass : (e : ℕ) → unknown e ≡ false → T (not (not (ltb e n)))
  known_pass e h = rw (lt-ltb e n (leb-false n e h)) tt

  pub unknown_at : {i : ℕ} → Some i ≡ position unknown events → (i < length events) × (i ≡ index (λ e. not (ltb e n)) events)
  unknown_at {i} q =
      let (l, here, before) = position-Some unknown events i 0 (sym q) in
      (l, index_is _ events 0 i (omega arith) (λ j m. known_pass (entry events j) (before j m)) (λ _. rw (le-ltb (entry events i) n (leb-true n (entry events i) here)) tt))

  pub unknown_none : None ≡ position unknown events → length events ≡ index (λ e. not (ltb e n)) events
  unknown_none q = go (order (position_or_len unknown events) (length events))
    where
      go : (position_or_len unknown events < length events) ⊎ (length events ≤ position_or_len unknown events) → length events ≡ index (λ e. not (ltb e n)) events
      go (inl l) = let r = lt-ltb _ _ l in cc
      go (inr l) =
          index_is _ events 0 (length events) (omega arith) (λ j m. known_pass (entry events j) (fails_before_first unknown events j 0 (omega arith))) (λ m. absurd (omega arith))

-- every element passes where the search for one that does not comes to the end
every_index : {A : Type 0} (f : A → Bool) (l : List A) → every f l ≡ not (ltb (index (λ x. not (f x)) l) (length l))
unfolding every index
every_index f [] = refl
every_index f (x ∷ l) = go (f x) (every_index f l)
  where
    go : (b : Bool) → every f l ≡ not (ltb (index (λ y. not (f y)) l) (length l))
        → (b && every f l) ≡ not (ltb (cond (not b) 0 (suc (index (λ y. not (f y)) l))) (suc (length l)))
    go true ih = ih ∙ rw (leb-suc-suc (suc (index (λ y. not (f y)) l)) (length l))
    go false ih = rw (lt-ltb 0 (suc (length l)) (omega arith))

module _ (events : List ℕ) (n : ℕ) {position : ℕ} (v : position ≡ index (λ e. not (ltb e n)) events) where
  known_test : every (λ e. ltb e n) events ≡ not (ltb position (length events))
  known_test = rw v (every_index (λ e. ltb e n) events)

  -- the search came to the end: each event is declared
  pub all_known : length events ≤ position → (i : ℕ) → i < length events → entry events i < n
  all_known h i l =
      let t : T (every (λ e. ltb e n) events) = rw (known_test, le-ltb position (length events) h) tt in
      ltb→lt (entry events i) n (every_elim (λ e. ltb e n) events t (entry events i) (get_d_mem events i 0 l))

  module _ {M : Type 0} (moves : M → ℕ → Option Move) (ms : List M) (qs : List ℕ) where
    pub runs_known : length events ≤ position → run_events moves n ms qs events ≡ passed (run_from moves ms qs events)
    unfolding declared
    runs_known h = events_declared moves n ms qs events (rw (known_test, le-ltb position (length events) h) tt)

    -- it stopped before: 14
    pub runs_unknown : position < length events → run_events moves n ms qs events ≡ refused (tabled (UnknownEvent position))
    unfolding declared tabled
    runs_unknown h =
        let t : T (not (declared n events)) = rw (known_test, lt-ltb position (length events) h) tt in
        rw (events_unknown moves n ms qs events t, v)
