-- What the rows and the sets say of 11 and 12 is what the model says.
use Prim.Native.Nat.{ℕ, zero, suc, ◌+◌, ◌*◌, ◌<◌, ◌≤◌}
use native.Mathlib.Omega.{arith}
use mathlib.Core.Path.{◌≡◌, refl, ap, sym, ◌∙◌}
use mathlib.Core.Logic.{◌⊎◌, inl, inr}
use mathlib.Core.Bool.{Bool, true, false, not, cond, ◌&&◌, ◌||◌, and-true, and-false, false≢true}
use mathlib.Core.List.{List, [], ◌∷◌, ◌++◌}
use mathlib.Core.Option.{none, some, some-ne-none, or_else}
use borrow.Author.Tests.{lt-ltb, le-ltb, ltb-true}
use lib.Dec.{ltb, eqb}
use lib.ListN.{length, take}
use lib.Seq.{take-suc, take-length}
use Rattle.model.specs.Lists.{At, exists, every, is_some, lowest}
use Rattle.std.specs.Prelude.{Result, Some, None}
use Rattle.std.specs.Prelude as Std
use Rattle.model.specs.declared.Refusal as D
use Rattle.model.specs.Refusal.{Refusal, refuse}
use Rattle.model.specs.TransitionSystem.{TransitionSystem}
use Rattle.model.specs.Product.{in_alphabet, effective}
use Rattle.model.specs.Machine.{Machine, Decomposition, place_of, in_pre, ready, common, open_event, ineffective_event, closure_refusal, cover_refusal, move}
use Rattle.model.proofs.Laws.{order}
use Rattle.model.proofs.ListLaws.{every_append}
use Rattle.model.proofs.Positions.{at_below, below_at, at_value}
use Rattle.state_set.specs.Member.{state_found}
use Rattle.rows.specs.declared.Counts.{Counts}
use Rattle.rows.specs.Tables.{verdict_refusal}
use Rattle.rows.specs.Told.{entry}
use Rattle.rows.proofs.Searches.{lowest_same}
use Rattle.rows.proofs.Fronts.{exists_snoc}
use Rattle.regions.specs.Moves.{move_at, MovesTold}
use Rattle.closure.specs.Covers.{PlaceSets, on_machine, on_some, meets, common_to, open_in, open_refusal, CoverTold, SetsTold, CoverJudged}
use Rattle.closure.proofs.Selection.{effective_each, closure_same}

every_snoc : {A : Type 0} (f : A → Bool) (l : List A) (x : A) → every f (l ++ (x ∷ [])) ≡ (every f l && f x)
unfolding every
every_snoc f l x = every_append f l (x ∷ []) ∙ ap (λ (b : Bool). every f l && b) (and-true (f x))

is_some_cond : {A : Type 0} (b : Bool) (a : A) → is_some (cond b (some a) none) ≡ b
unfolding is_some
is_some_cond true a = refl
is_some_cond false a = refl

-- ---- 11 by the moves
module _ {ts : TransitionSystem} {ms : Decomposition} {pre post : List ℕ} (moves : MovesTold ts ms pre post) where
  pub on_machine_lem : (e k : ℕ) (m : Machine) → e < ts.events → At ms k m → on_machine pre e k ≡ in_alphabet (move ts) e m
  unfolding on_machine in_alphabet move_at
  on_machine_lem e k m l a = sym (is_some_cond (ltb (entry pre (e * 16 + k)) 64) _) ∙ ap is_some (moves.move k e m a l)

  pub on_first : (e n : ℕ) → e < ts.events → n ≤ length ms → on_some pre e n ≡ exists (in_alphabet (move ts) e) (take n ms)
  unfolding on_some exists
  on_first e zero l b = refl
  on_first e (suc n) l b =
      let w = below_at ms n b in
      rw (on_first e n l (omega arith), on_machine_lem e n w.0 l w.1, take-suc ms n w.0, at_value ms n w.0 w.0 w.1)
      (sym (exists_snoc (in_alphabet (move ts) e) (take n ms) w.0))

  on_all : (e : ℕ) → e < ts.events → on_some pre e (length ms) ≡ effective (move ts) ms e
  unfolding effective
  on_all e l = on_first e (length ms) l (omega arith) ∙ ap (exists (in_alphabet (move ts) e)) (take-length ms)

  ineffective_same : lowest (λ (e : ℕ). not (on_some pre e (length ms))) ts.events ≡ ineffective_event ts ms
  unfolding ineffective_event
  ineffective_same = lowest_same _ _ ts.events (λ e l. ap not (on_all e l))

-- ---- 12 by the sets
module _ {ts : TransitionSystem} {ms : Decomposition} {pre post sets excitations : List ℕ} (told : SetsTold ts ms pre post sets excitations) where
  pub machine_ready : (e k i : ℕ) (m : Machine) → e < ts.events → i < ts.states → At ms k m → meets sets pre e k i ≡ ready ts e i m
  unfolding meets on_machine ready move_at in_pre
  machine_ready e k i m l b a = go (ltb (entry pre (e * 16 + k)) 64) refl
    where
      go : (t : Bool) → ltb (entry pre (e * 16 + k)) 64 ≡ t → meets sets pre e k i ≡ ready ts e i m
      go true q =
          rw (q, sym (told.moves.move k e m a l), q)
          (told.places.each k (entry pre (e * 16 + k)) i m a (ltb-true (entry pre (e * 16 + k)) 64 q) ∙ rw (lt-ltb i ts.states b))
      go false q = rw (q, sym (told.moves.move k e m a l), q)

  pub common_first : (e i n : ℕ) → e < ts.events → i < ts.states → n ≤ length ms → common_to sets pre e n i ≡ every (ready ts e i) (take n ms)
  unfolding common_to every
  common_first e i zero l b c = lt-ltb i 256 (omega (arith, told.states))
  common_first e i (suc n) l b c =
      let w = below_at ms n c in
      rw (common_first e i n l b (omega arith), machine_ready e n i w.0 l b w.1, take-suc ms n w.0, at_value ms n w.0 w.0 w.1)
      (sym (every_snoc (ready ts e i) (take n ms) w.0))

  common_all : (e i : ℕ) → e < ts.events → i < ts.states → common_to sets pre e (length ms) i ≡ common ts ms e i
  unfolding common
  common_all e i l b = common_first e i (length ms) l b (omega arith) ∙ ap (every (ready ts e i)) (take-length ms)

  -- no number past the states is in the pre-place of a machine that has the event
  pub meets_past : (e k i : ℕ) (m : Machine) → At ms k m → ts.states ≤ i → on_machine pre e k ≡ true → meets sets pre e k i ≡ false
  unfolding meets on_machine
  meets_past e k i m a b t =
      rw t (told.places.each k (entry pre (e * 16 + k)) i m a (ltb-true (entry pre (e * 16 + k)) 64 t) ∙ rw (le-ltb i ts.states b))

  pub common_past : (e i n : ℕ) → ts.states ≤ i → n ≤ length ms → on_some pre e n ≡ true → common_to sets pre e n i ≡ false
  unfolding common_to on_some
  common_past e i zero b c o = absurd (false≢true o)
  common_past e i (suc n) b c o = go (on_some pre e n) refl (common_past e i n b (omega arith))
    where
      go : (t : Bool) → on_some pre e n ≡ t → (on_some pre e n ≡ true → common_to sets pre e n i ≡ false) → common_to sets pre e (suc n) i ≡ false
      go true q ih = rw (ih q)
      go false q ih =
          let w = below_at ms n c in
          rw (meets_past e n i w.0 w.1 b (sym (ap (λ (t : Bool). t || on_machine pre e n) q) ∙ o)) (and-false (common_to sets pre e n i))

  all_closed : ((e : ℕ) → e < ts.events → effective (move ts) ms e ≡ true)
      → open_refusal (open_in sets pre excitations (length ms)) ts.events ≡ closure_refusal ts ms (open_event ts ms)
  unfolding open_in
  all_closed =
      closure_same ts ms excitations told.excitations told.states told.events (λ e. on_some pre e (length ms)) (λ e i. common_to sets pre e (length ms) i)
      (on_all told.moves) common_all (λ e i l b. common_past e i (length ms) b (omega arith))

-- ---- the places as sets
pub sets_told : {ts : TransitionSystem} {ms : Decomposition} {pre post place sets excitations : List ℕ} {words machines : ℕ} → CoverTold ts ms pre post place excitations
    → PlaceSets place ts.states words machines sets → machines ≡ length ms → SetsTold ts ms pre post sets excitations
sets_told {ts} {ms} {place = place} told filled count =
    record {
      states = told.states;
      events = told.events;
      machines = told.machines;
      moves = told.moves;
      places = record { each = λ k q i m a l. filled.members k q i (omega (arith, at_below ms k m a, count)) l ∙ at k q i m a (order i ts.states) };
      excitations = told.excitations;
    }
  where
    at : (k q i : ℕ) (m : Machine) → At ms k m → (i < ts.states) ⊎ (ts.states ≤ i)
        → (ltb i ts.states && eqb (entry place (k * 256 + i)) q) ≡ (ltb i ts.states && eqb (place_of m i) q)
    at k q i m a (inl b) = rw (told.places.each k i m a b)
    at k q i m a (inr b) = rw (le-ltb i ts.states b)

-- a refusal is none that lets pass
pub no_pass : {A : Type 0} (r : Refusal) → some r ≡ none → A
no_pass r h = absurd (some-ne-none r h)

-- ---- 11 and 12 by the rows
module _ (c : Counts) {pre place excitations : List ℕ} (event : Std.Option ℕ)
    (answer : state_found event ≡ lowest (λ (e : ℕ). not (on_some pre e c.machines)) c.events) where
  module _ {ts : TransitionSystem} {ms : Decomposition} {post : List ℕ} (told : CoverTold ts ms pre post place excitations) (labels : ts.events ≡ c.events)
      (count : length ms ≡ c.machines) where
    eleven : state_found event ≡ ineffective_event ts ms
    eleven = answer ∙ rw (sym labels, sym count) (ineffective_same told.moves)

  pub cover_refused : {r : Result (Unit {0}) D.Refusal} (e : ℕ) → event ≡ Some e → verdict_refusal r ≡ some (refuse 11 e 0) → CoverJudged c pre place excitations r
  unfolding cover_refusal or_else state_found
  cover_refused e q v =
      record { judges = λ ts ms post told states labels count. v ∙ rw (sym (eleven told labels count), q) }

  pub cover_passed : {r : Result (Unit {0}) D.Refusal} {words : ℕ} {sets : List ℕ} → event ≡ None → PlaceSets place c.states words c.machines sets
      → verdict_refusal r ≡ open_refusal (open_in sets pre excitations c.machines) c.events → CoverJudged c pre place excitations r
  unfolding cover_refusal or_else state_found
  cover_passed q filled v =
      record {
        judges = λ ts ms post told states labels count.
            let n : ineffective_event ts ms ≡ none = sym (eleven told labels count) ∙ ap state_found q in
            let by-sets = sets_told told (rw (sym states) at filled) (sym count) in
            v ∙ rw (n, sym labels, sym count) (all_closed by-sets (effective_each ts ms n));
      }
