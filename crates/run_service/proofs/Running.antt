-- Run, by its ways out.
use Prim.Native.Nat.{ℕ, ◌+◌, ◌*◌, ◌-◌, ◌<◌}
use native.Mathlib.Omega.{arith}
use mathlib.Core.Path.{◌≡◌, ap, sym, ◌∙◌, subst}
use mathlib.Core.List.{List}
use lib.Dec.{T}
use lib.ListN.{length, take, replicate}
use lib.Seq.{take_at}
use Rattle.model.specs.declared.Refusal as D
use Rattle.model.specs.Cases.{tabled}
use Rattle.model.specs.Lists.{numbers}
use Rattle.model.specs.Refusal.{refused}
use Rattle.model.specs.Machine.{Decomposition, places, move}
use Rattle.model.specs.Text.{Input, system}
use Rattle.model.specs.Services as Services
use Rattle.model.specs.Services.{as_far_as12}
use Rattle.model.proofs.Positions.{below_at, at_value}
use Rattle.model.proofs.Simulate.{covers_of}
use Rattle.model.proofs.Standing.{at_places, length_places}
use Rattle.model.proofs.Together.{SameMoves, same_effective}
use Rattle.model.proofs.Refusing.{same_events}
use Rattle.rows.specs.declared.Tables.{Tables}
use Rattle.rows.specs.Told.{entry}
use Rattle.rows.proofs.Bounds.{limits}
use Rattle.rows.proofs.Telling.{told_place, told_events, told_initial}
use Rattle.regions.specs.Moves.{move_at}
use Rattle.product.specs.Stepping.{Standing, IsOn, Runs, RunsEvents}
use Rattle.product.proofs.Places.{stands_padded}
use Rattle.product.proofs.Told.{told_moves}
use Rattle.stages.specs.Stages.{Judged}
use Rattle.stages.proofs.Stages.{past_12, machines_pass}

pub run_refused : (s es : List ℕ) (why : D.Refusal) {a : Services.RunAnswer} → as_far_as12 s ≡ refused (tabled why)
    → a ≡ Services.ran_answer (refused (tabled why)) → a ≡ Services.run s es
unfolding Services.run
run_refused s es why e q = rw e q

module _ {s : List ℕ} {p : Tables} {pre post excited : List ℕ} (j : Judged s p pre post excited) where
  abbrev value : Input
  value = j.past.held.value

  abbrev machines : Decomposition
  machines = value.machines

  counted : p.counts.machines ≡ length machines
  counted = j.past.held.told.tells_machines.counted

  -- the rows tell the machines' moves
  same : (e : ℕ) → e < (system value).events → SameMoves (move_at pre post) (move (system value)) (numbers p.counts.machines) machines e e
  same = told_moves j.past.cover.moves counted

  -- past 11 each event is on a machine
  on_a_machine : (e : ℕ) → e < (system value).events → IsOn pre post p.counts.machines e
  on_a_machine e l =
      subst T (sym (same_effective (move_at pre post) (move (system value)) (numbers p.counts.machines) machines e e (same e l)))
      ((covers_of (system value) machines j.covered).effective e l)

  abbrev start : List ℕ
  start = places machines value.initial

  stands : (row : List ℕ) → Standing (λ k. entry p.place (k * 256 + p.counts.initial)) p.counts.machines row → row ≡ Services.padded start
  stands row t =
      let n = length_places machines value.initial in
      let limit = limits s value j.past.held.passes in
      stands_padded start (omega (arith, j.past.cover.machines, n))
      (record {
        size = t.size;
        stands = λ k l.
            let w = below_at machines k (omega (arith, n)) in
            t.stands k (omega (arith, n, counted))
            ∙ ap (λ (x : ℕ). entry p.place (k * 256 + x)) (told_initial j.past.held.told)
            ∙ told_place j.past.held.told.tells_machines (machines_pass j.past) limit.states_most k value.initial w.0 w.1
            (omega (arith, limit.initial, limit.states_least))
            ∙ sym (at_value start k _ 0 (at_places machines value.initial k w.0 w.1));
        unused = λ k l. t.unused k (omega (arith, n, counted));
      })

  module _ {row : List ℕ} (t : Standing (λ k. entry p.place (k * 256 + p.counts.initial)) p.counts.machines row) where
    first : take p.counts.machines row ≡ start
    unfolding Services.padded
    first =
        ap (take p.counts.machines) (stands row t)
        ∙ take_at start (replicate (16 - length start) 0) p.counts.machines (length_places machines value.initial ∙ sym counted)

    pub runnable : Runs pre post p.counts.machines p.counts.events row
    runnable =
        record {
          few = j.past.held.bounds.machines;
          rows = j.past.cover.moves.rows;
          known = j.past.held.bounds.events;
          on = λ e l. on_a_machine e (omega (arith, told_events j.past.held.told, l));
          standing = stands row t ∙ ap Services.padded (sym first);
        }

    pub ran : (es : List ℕ) {a : Services.RunAnswer} → RunsEvents pre post p.counts.machines p.counts.events row es a → a ≡ Services.run s es
    unfolding Services.run
    ran es answers =
        rw (past_12 j)
        (answers
        ∙ ap (λ (qs : List ℕ). Services.ran_answer (Services.run_events (move_at pre post) p.counts.events (numbers p.counts.machines) qs es)) first
        ∙ ap (λ (k : ℕ). Services.ran_answer (Services.run_events (move_at pre post) k (numbers p.counts.machines) start es)) (told_events j.past.held.told)
        ∙ ap Services.ran_answer (same_events (move_at pre post) (move (system value)) (length value.names) (numbers p.counts.machines) machines start es same))
