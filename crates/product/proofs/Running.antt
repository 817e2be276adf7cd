-- The events one after another: as far as they ran, the model's run goes on from where the machines stand.
use Rattle.std.specs.Prelude.{Some, None}
use Prim.Native.Nat.{ℕ, suc, ◌+◌, ◌<◌, ◌≤◌}
use native.Mathlib.Numerals.{add-one}
use native.Mathlib.Omega.{arith}
use mathlib.Core.Path.{◌≡◌, ap, sym, ◌∙◌, subst}
use mathlib.Core.List.{List}
use lib.ListN.{length, take, drop, drop_of_length-le}
use lib.Seq.{drop-cons}
use Rattle.model.specs.Lists.{numbers}
use Rattle.model.specs.Product.{Ran, one_more, run_from, blocker}
use Rattle.model.specs.Services.{whole, blocked, outcome_of, ran_answer}
use Rattle.model.proofs.Together.{run_stops, run_goes}
use Rattle.rows.specs.Told.{entry}
use Rattle.regions.specs.Moves.{move_at}
use Rattle.product.specs.declared.Outcome.TheVariants.{Whole, Blocked}
use Rattle.product.specs.declared.Stepped.{Stepped}
use Rattle.product.specs.Answers.{outcome_is, run_answer}
use Rattle.product.specs.Stepping.{Steps, IsPadded, EventsOn, RunsFrom}
use Rattle.product.proofs.Firing.{step_moves, step_blocks, still_padded}

-- n events ran before
abbrev pub after : ℕ → Ran → Ran
after n r = record { ran = n + r.ran; blocked = r.blocked; places = r.places }

pub after_none : (r : Ran) → r ≡ after 0 r
after_none r = let z : 0 + r.ran ≡ r.ran = omega arith in rw z

pub after_one : (n : ℕ) (r : Ran) → after n (one_more r) ≡ after (n + 1) r
unfolding one_more
after_one n r = let z : n + suc r.ran ≡ n + 1 + r.ran = omega arith in rw z

-- the run of the machines whose moves the rows tell
abbrev run_rows : List ℕ → List ℕ → ℕ → List ℕ → List ℕ → Ran
run_rows pre post machines = run_from (move_at pre post) (numbers machines)

-- `ran` of the events ran: the run goes on from where the machines stand
pub record Running (pre post : List ℕ) (machines : ℕ) (start events places : List ℕ) (ran : ℕ) : Type 0 where
  pub most : ran ≤ length events
  pub size : length places ≡ 16
  pub standing : IsPadded machines places
  pub rest : run_rows pre post machines (take machines start) events ≡ after ran (run_rows pre post machines (take machines places) (drop ran events))

module _ {pre post : List ℕ} {machines : ℕ} {start events : List ℕ} where
  module _ {places : List ℕ} {ran : ℕ} (run : Running pre post machines start events places ran) where
    module _ (l : ran < length events) (on : EventsOn pre post machines events) {e : ℕ} (v : e ≡ entry events ran) {s : Stepped} (made : Steps pre post machines places e s) where
      steps : Steps pre post machines places (entry events ran) s
      steps = subst (λ (x : ℕ). Steps pre post machines places x s) v made

      -- the next event runs
      pub run_more : machines ≤ 16 → s.blocker ≡ None → Running pre post machines start events s.places (ran + 1)
      run_more few h =
          let rs = take machines s.places in
          let es = drop (suc ran) events in
          let goes = run_goes (move_at pre post) (numbers machines) (take machines places) rs (entry events ran) es (step_moves (on ran l).1 steps h) in
          record {
            most = omega arith;
            size = steps.size;
            standing = still_padded few run.size run.standing steps;
            rest = run.rest ∙ rw (drop-cons events ran 0 l, goes) (after_one ran (run_rows pre post machines rs es) ∙ rw (add-one ran));
          }

      -- a machine blocks it: all stay where they are
      pub run_blocked : {m : ℕ} → s.blocker ≡ Some m
          → RunsFrom pre post machines start events (run_answer (record { outcome = Blocked ran m; places = s.places }))
      unfolding run_answer outcome_is ran_answer outcome_of
      run_blocked {m} h =
          let stops = run_stops (move_at pre post) (numbers machines) (take machines places) (entry events ran) (drop (suc ran) events) (step_blocks (on ran l).1 steps m h) in
          let z : ran + 0 ≡ ran = omega arith in
          let who : m ≡ blocker (move_at pre post) (numbers machines) (take machines places) (entry events ran) = rw h at steps.blocker in
          rw (run.rest, drop-cons events ran 0 l, stops, z, sym who, (steps.halts m h).1) (ap (λ (ps : List ℕ). record { outcome = blocked ran m; places = ps }) run.standing)

    -- all ran
    pub run_end : length events ≤ ran → RunsFrom pre post machines start events (run_answer (record { outcome = Whole; places = places }))
    unfolding run_answer outcome_is run_from ran_answer outcome_of
    run_end h = rw (run.rest, drop_of_length-le events h) (ap (λ (ps : List ℕ). record { outcome = whole; places = ps }) run.standing)
