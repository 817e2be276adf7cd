-- 4 and 5 over the transitions in order: those before k have passed, and are in the sets.
use Prim.Native.Nat.{ℕ, suc, ◌+◌, ◌<◌, ◌≤◌}
use native.Mathlib.Numerals.{add-one}
use native.Mathlib.Omega.{arith}
use mathlib.Core.Path.{◌≡◌, refl, ◌∙◌}
use mathlib.Core.List.{List, [], ◌∷◌, ◌++◌, append_assoc, append-nil}
use mathlib.Core.Option.{Option, none, some, some-ne-none, or_else}
use lib.ListN.{length}
use Rattle.model.specs.declared.Refusal as D
use Rattle.model.specs.TransitionSystem.{Transition, transition_refusal, transitions_refusal}
use Rattle.std.specs.Prelude.{Result, Ok, Err}
use Rattle.rows.specs.Tables.{verdict_refusal}
use Rattle.rows.specs.Told.{transition_at, first_transitions}
use Rattle.rows.proofs.Fronts.{front_more, front_rest}
use Rattle.transition_system.specs.Sets.{SetsOf, InRows}

or_else_assoc : {A : Type 0} (a b c : Option A) → or_else a (or_else b c) ≡ or_else (or_else a b) c
unfolding or_else
or_else_assoc none b c = refl
or_else_assoc (some x) b c = refl

refusal_append : (before xs ys : List Transition)
    → transitions_refusal before (xs ++ ys) ≡ or_else (transitions_refusal before xs) (transitions_refusal (before ++ xs) ys)
unfolding transitions_refusal or_else
refusal_append before [] ys = rw append-nil
refusal_append before (x ∷ xs) ys =
    rw (refusal_append (before ++ (x ∷ [])) xs ys, append_assoc before (x ∷ []) xs)
    (or_else_assoc (transition_refusal before x) (transitions_refusal (before ++ (x ∷ [])) xs) (transitions_refusal (before ++ (x ∷ xs)) ys))

-- `words`: the length of the row of successors
pub record SoFar (source event target : List ℕ) (n words k : ℕ) (excited successors : List ℕ) : Type 0 where
  pub most : k ≤ n
  pub size : length successors ≡ words
  pub passes : transitions_refusal [] (first_transitions source event target k) ≡ none
  pub sets : SetsOf (first_transitions source event target k) excited successors

abbrev Scanned : List ℕ → List ℕ → List ℕ → ℕ → Result (Unit {0}) D.Refusal → List ℕ → List ℕ → Type 0
Scanned source event target n v excited successors =
    (verdict_refusal v ≡ transitions_refusal [] (first_transitions source event target n))
    × (verdict_refusal v ≡ none → SetsOf (first_transitions source event target n) excited successors)

pub scan_start : {source event target : List ℕ} {n : ℕ} {excited successors : List ℕ} → SetsOf [] excited successors
    → SoFar source event target n (length successors) 0 excited successors
unfolding first_transitions transitions_refusal
scan_start s = record { most = omega arith; size = refl; passes = refl; sets = s }

module _
    {source event target : List ℕ} {n words k : ℕ} {excited successors : List ℕ}
    (s : SoFar source event target n words k excited successors) where
  pub scan_end : n ≤ k → Scanned source event target n (Ok tt) excited successors
  unfolding verdict_refusal
  scan_end l =
      let e : k ≡ n = omega arith in
      (rw (← e, s.passes), λ _. rw (← e) s.sets)

  -- the source of transition k still has a set of successors
  pub in_rows : {row : List ℕ} → words ≡ length row → InRows source event target row k → InRows source event target successors k
  in_rows e r =
      record {
        low = r.low;
        sources = r.sources;
        events = r.events;
        targets = r.targets;
        label = r.label;
        from = omega (arith, r.from, s.size);
      }

  -- transition k and those after it
  after : (ys : List Transition) → transitions_refusal [] (first_transitions source event target k ++ (transition_at source event target k ∷ ys))
      ≡ or_else (transition_refusal (first_transitions source event target k) (transition_at source event target k))
      (transitions_refusal (first_transitions source event target k ++ (transition_at source event target k ∷ [])) ys)
  unfolding transitions_refusal or_else
  after ys = refusal_append [] (first_transitions source event target k) (transition_at source event target k ∷ ys) ∙ rw s.passes

  -- it is refused
  pub scan_stop : {v : Result (Unit {0}) D.Refusal} {why : D.Refusal} {old new : List ℕ} → k < n → v ≡ Err why
      → verdict_refusal v ≡ transition_refusal (first_transitions source event target k) (transition_at source event target k)
      → Scanned source event target n (Err why) old new
  unfolding verdict_refusal or_else
  scan_stop l q r =
      let (ys, e) = front_rest source event target k n l in
      (rw (e, after ys, ← r, q), λ h. absurd (some-ne-none _ h))

  -- it passes
  pub scan_more : {v : Result (Unit {0}) D.Refusal} {u : Unit {0}} {old new : List ℕ} → k < n → v ≡ Ok u
      → verdict_refusal v ≡ transition_refusal (first_transitions source event target k) (transition_at source event target k)
      → (verdict_refusal v ≡ none → SetsOf (first_transitions source event target (suc k)) old new)
      → length new ≡ length successors → SoFar source event target n words (k + 1) old new
  unfolding verdict_refusal or_else transitions_refusal
  scan_more l e r t z =
      record {
        most = omega arith;
        size = z ∙ s.size;
        passes = rw (front_more source event target k, after [], ← r, e);
        sets = rw (add-one k) (t (rw e));
      }
