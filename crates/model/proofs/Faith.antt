-- Demand 3 for machines that pass 8 to 12: they run as the transition system does, and what Run answers.
use Prim.Native.Nat.{ℕ, zero, suc, ◌-◌, ◌≤◌, ◌<◌}
use native.Mathlib.Omega.{arith}
use mathlib.Core.Path.{◌≡◌, refl, ap, sym, ◌∙◌, subst}
use mathlib.Core.Logic.{◌↔◌}
use mathlib.Core.List.{List, [], ◌∷◌, ◌++◌, Memᴰ}
use mathlib.Core.Option.{Option, none, some, map, some-injective, none-ne-some, some-ne-none}
use lib.Dec.{T}
use lib.ListN.{length, take, get_or, replicate, length-append, length-replicate, get_or-append}
use lib.Seq.{take_at}
use Rattle.model.specs.Lists.{is_some}
use Rattle.model.specs.Refusal.{Refusal, passed}
use Rattle.model.specs.TransitionSystem.{TransitionSystem, system_step, runs, and_then, system_runs, transitions_refusal}
use Rattle.model.specs.Product.{Ran, fire_all, blocker, run_from}
use Rattle.model.specs.Machine.{Machine, Decomposition, places, move, product_runs}
use Rattle.model.specs.Region.{Walk, Arc, Blocks, Stands, MachinesRun}
use Rattle.model.specs.Services.{whole, blocked, refused_by, outcome_of, padded, ran_answer}
use Rattle.model.specs.Demands.{OfSystem, SystemRuns, ProductRuns, Faithful, Tells, Answers}
use Rattle.model.proofs.Positions.{at_below, at_mem, at_value}
use Rattle.model.proofs.Bounds.{Within, Listed}
use Rattle.model.proofs.Places.{Good}
use Rattle.model.proofs.Together.{step_effective, Halts, blocker_halts, RunEnd, ended, halted, run_end}
use Rattle.model.proofs.Simulate.{Covers, runs_same, step_low}
use Rattle.model.proofs.Running.{RunTells, tells}
use Rattle.model.proofs.Standing.{length_places, stands_at}
use Rattle.model.proofs.Joint.{halts_blocks, lower_passes}
use Rattle.model.proofs.Product.{moves_arcs, some_of, system_walk, machines_run}

-- a run stays among the states
pub runs_low : (p : TransitionSystem) → Within p → (es : List ℕ) (s u : ℕ) → s < p.states → runs (system_step p) s es ≡ some u → u < p.states
unfolding runs and_then
runs_low p b [] s u l r = subst (λ (v : ℕ). v < p.states) (some-injective s u r) l
runs_low p b (e ∷ es) s u l r = go (system_step p s e) refl (runs_low p b es) r
  where
    go : (o : Option ℕ) → system_step p s e ≡ o → ((v w : ℕ) → v < p.states → runs (system_step p) v es ≡ some w → w < p.states)
        → and_then o (λ v. runs (system_step p) v es) ≡ some u → u < p.states
    go none q ih x = absurd (none-ne-some u x)
    go (some v) q ih x = ih v u (step_low p b s e v q) x

is_some_map : {A B : Type 0} (f : A → B) (o : Option A) → is_some o ≡ is_some (map f o)
unfolding is_some
is_some_map f none = refl
is_some_map f (some a) = refl

-- Q holds of the option's value only: there is a value where Q holds of some
some_iff : {A : Type 0} (o : Option A) (Q : A → Type 0) → ((a : A) → (o ≡ some a) ↔ Q a) → T (is_some o) ↔ ((a : A) × Q a)
unfolding is_some
some_iff o Q h = (λ t. let x = some_of o t in (x.0, (h x.0).0 x.1), λ x. rw ((h x.0).1 x.1) tt)

-- a list runs exactly where there is a path of it
pub runs_some : (p : TransitionSystem) → transitions_refusal [] p.transitions ≡ none → (es : List ℕ) → T (is_some (system_runs p es)) ↔ SystemRuns p es
unfolding system_runs
runs_some p n es = some_iff (system_runs p es) (Walk p p.initial es) (system_walk p n es p.initial)

pub product_some : (p : TransitionSystem) (ms : Decomposition) → Within p → ((m : Machine) → Memᴰ m ms → Good p m) → ((m : Machine) → Memᴰ m ms → Listed p m)
    → (es : List ℕ) → T (is_some (product_runs p ms es)) ↔ ProductRuns p ms es
product_some p ms b g w es = some_iff (product_runs p ms es) (MachinesRun p ms es) (machines_run p ms b g w es)

pub faithful : (p : TransitionSystem) (ms : Decomposition) → Within p → transitions_refusal [] p.transitions ≡ none
    → ((m : Machine) → Memᴰ m ms → Good p m) → ((m : Machine) → Memᴰ m ms → Listed p m) → Covers p ms → (es : List ℕ) → Faithful p ms es
unfolding system_runs product_runs
faithful p ms b n g w c es =
    record {
      alike = (
        λ x. (product_some p ms b g w es).0 (subst T equal ((runs_some p n es).1 x)),
        λ y. (runs_some p n es).0 (subst T (sym equal) ((product_some p ms b g w es).1 y)),
      );
      stands = λ u qs x y. at u qs ((system_walk p n es p.initial u).1 x) ((machines_run p ms b g w es qs).1 y);
    }
  where
    same : product_runs p ms es ≡ map (places ms) (system_runs p es)
    same = runs_same p ms b g c es p.initial b.initial

    equal : is_some (system_runs p es) ≡ is_some (product_runs p ms es)
    equal = is_some_map (places ms) (system_runs p es) ∙ ap is_some (sym same)

    at : (u : ℕ) (qs : List ℕ) → system_runs p es ≡ some u → product_runs p ms es ≡ some qs → Stands ms qs u
    at u qs x y =
        subst (λ (v : List ℕ). Stands ms v u) (some-injective (places ms u) qs (sym (same ∙ ap (map (places ms)) x) ∙ y))
        (stands_at p ms g u (runs_low p b es p.initial u b.initial x))

-- a beginning of a list that runs runs
take_runs : (p : TransitionSystem) (es : List ℕ) (j k s : ℕ) → k ≤ j → T (is_some (runs (system_step p) s (take j es))) → T (is_some (runs (system_step p) s (take k es)))
unfolding runs and_then is_some
take_runs p es j zero s l t = tt
take_runs p es zero (suc k) s l t = absurd (omega arith)
take_runs p [] (suc j) (suc k) s l t = tt
take_runs p (e ∷ es) (suc j) (suc k) s l t = go (system_step p s e) (λ u x. take_runs p es j k u (omega arith) x) t
  where
    go : (o : Option ℕ) → ((u : ℕ) → T (is_some (runs (system_step p) u (take j es))) → T (is_some (runs (system_step p) u (take k es))))
        → T (is_some (and_then o (λ u. runs (system_step p) u (take j es)))) → T (is_some (and_then o (λ u. runs (system_step p) u (take k es))))
    go none ih x = x
    go (some u) ih x = ih u x

-- zeros after the places
get_d_zeros : (n k : ℕ) → ◌≡◌ {A = ℕ} (get_or (replicate n 0) k 0) 0
get_d_zeros zero k = refl
get_d_zeros (suc n) zero = refl
get_d_zeros (suc n) (suc k) = get_d_zeros n k

pub get_d_padded : (qs : List ℕ) (n k : ℕ) → length qs ≤ k → get_or (qs ++ replicate n 0) k 0 ≡ 0
get_d_padded [] n k l = get_d_zeros n k
get_d_padded (q ∷ qs) n zero l = absurd (omega arith)
get_d_padded (q ∷ qs) n (suc k) l = get_d_padded qs n k (omega arith)

-- the outcome by its cases
outcome_whole : (n : ℕ) (o : Option ℕ) → outcome_of n o ≡ whole → o ≡ none
unfolding outcome_of
outcome_whole n none h = refl
outcome_whole n (some k) h = cc

outcome_blocked : (n : ℕ) (o : Option ℕ) (a k : ℕ) → outcome_of n o ≡ blocked a k → (n ≡ a) × (o ≡ some k)
unfolding outcome_of
outcome_blocked n none a k h = (cc, cc)
outcome_blocked n (some j) a k h = (cc, cc)

outcome_passed : (n : ℕ) (o : Option ℕ) (r : Refusal) → ¬ (outcome_of n o ≡ refused_by r)
unfolding outcome_of
outcome_passed n none r h = let z : ◌≡◌ {A = ℕ} 0 1 = cc in omega arith
outcome_passed n (some k) r h = let z : ◌≡◌ {A = ℕ} 0 1 = cc in omega arith

one_each : (p : TransitionSystem) (ms : Decomposition) (s : ℕ) (es : List ℕ) (r : Ran) → RunTells p ms s es r → length r.places ≡ length ms
one_each p ms s es r i = ap length i.places ∙ length_places ms i.state

-- the answer tells of the transition system what the run tells
run_tells : (p : TransitionSystem) (ms : Decomposition) → Within p → transitions_refusal [] p.transitions ≡ none → ((m : Machine) → Memᴰ m ms → Good p m) → length ms ≤ 16
    → (es : List ℕ) (r : Ran) → RunTells p ms p.initial es r → (n : ℕ) → r.ran ≡ n → Tells p ms es n (padded r.places)
unfolding system_runs is_some padded
run_tells p ms b f g few es r i n q =
    subst (λ (j : ℕ). Tells p ms es j (padded r.places)) q
    (record {
      most = i.short;
      longest = λ k l. (
        λ x. i.longest k l ((runs_some p f (take k es)).1 x),
        λ h. (runs_some p f (take k es)).0 (take_runs p es r.ran k p.initial h (rw i.stands tt)),
      );
      state = i.state;
      stops = (system_walk p f (take r.ran es) p.initial i.state).0 i.stands;
      sixteen = simp (length-append, length-replicate) (omega (arith, size));
      told = rw (take_at r.places (replicate (16 - length r.places) 0) (length ms) size) (rw i.places
          (stands_at p ms g i.state (runs_low p b (take r.ran es) p.initial i.state b.initial i.stands)));
      unused = λ k l. get_d_padded r.places (16 - length r.places) k (omega (arith, size));
    })
  where
    size : length r.places ≡ length ms
    size = one_each p ms p.initial es r i

pub answered : (p : TransitionSystem) (ms : Decomposition) → Within p → transitions_refusal [] p.transitions ≡ none
    → ((m : Machine) → Memᴰ m ms → Good p m) → ((m : Machine) → Memᴰ m ms → Listed p m) → Covers p ms → length ms ≤ 16
    → (es : List ℕ) → OfSystem p es → Answers p ms es (ran_answer (passed (run_from (move p) ms (places ms p.initial) es)))
unfolding ran_answer system_runs outcome_of padded
answered p ms b f g w c few es d =
    record {
      ran_whole = (
        λ h. (runs_some p f es).0 (i.whole.0 (outcome_whole r.ran r.blocked h)),
        λ x. ap (outcome_of r.ran) (i.whole.1 ((runs_some p f es).1 x)),
      );
      not_refused = outcome_passed r.ran r.blocked;
      if_whole = λ h. run_tells p ms b f g few es r i (length es) (at_end (outcome_whole r.ran r.blocked h) (run_end (move p) ms es (places ms p.initial)));
      if_blocked = λ n k h. let o = outcome_blocked r.ran r.blocked n k h in at_stop n k o.0 o.1 (run_end (move p) ms es (places ms p.initial));
    }
  where
    r : Ran
    r = run_from (move p) ms (places ms p.initial) es

    ps : List ℕ
    ps = padded r.places

    i : RunTells p ms p.initial es r
    i = tells p ms b g c es p.initial b.initial

    size : length r.places ≡ length ms
    size = one_each p ms p.initial es r i

    told : (j : ℕ) → j < length ms → get_or ps j 0 ≡ get_or r.places j 0
    told j l = get_or-append r.places (replicate (16 - length r.places) 0) 0 j (omega (arith, size))

    at_end : r.blocked ≡ none → RunEnd (move p) ms es r → r.ran ≡ length es
    at_end q (ended x y) = y
    at_end q (halted e a x z) = absurd (some-ne-none (blocker (move p) ms r.places e) (sym x ∙ q))

    at_stop : (n k : ℕ) → r.ran ≡ n → r.blocked ≡ some k → RunEnd (move p) ms es r
        → (n < length es) × Tells p ms es n ps × Blocks (Arc p) ms ps (get_or es n 0) k × ((j : ℕ) → j < k → ¬ Blocks (Arc p) ms ps (get_or es n 0) j)
    at_stop n k q o (ended x y) = absurd (none-ne-some k (sym x ∙ o))
    at_stop n k q o (halted e a x z) = (
      subst (λ (j : ℕ). j < length es) q (at_below es r.ran e a),
      run_tells p ms b f g few es r i n q,
      halts_blocks (move p) (Arc p) ms (moves_arcs p ms b g w) r.places ps told (get_or es n 0) k halts,
      lower_passes (move p) (Arc p) ms (moves_arcs p ms b g w) r.places ps told (get_or es n 0) k halts,
    )
      where
        all_stop : fire_all (move p) e ms r.places ≡ none
        all_stop = sym (step_effective (move p) ms r.places e (c.effective e (d e (at_mem es r.ran e a)))) ∙ z

        next : e ≡ get_or es n 0
        next = sym (at_value es r.ran e 0 a) ∙ ap (λ (j : ℕ). get_or es j 0) q

        halts : Halts (move p) (get_or es n 0) ms r.places k
        halts =
            subst (λ (d : ℕ). Halts (move p) d ms r.places k) next
            (subst (Halts (move p) e ms r.places) (some-injective (blocker (move p) ms r.places e) k (sym x ∙ o)) (blocker_halts (move p) e ms r.places size all_stop))
