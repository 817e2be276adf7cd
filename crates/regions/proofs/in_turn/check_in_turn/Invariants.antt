-- `check_in_turn` meets its contract, whatever the row of events, the names and the sizes are. The laws are in `Checking`.
use Rattle.std.proofs.Common.{ℕ, List}
use Rattle.rows.specs.Tables.{tables_in}
use Rattle.rows.specs.Bounded.{Bounded}
use Rattle.regions.specs.Moves.{MoveRows}
use Rattle.regions.specs.Indexed.{Indexed}
use Rattle.regions.proofs.in_turn.Checking.{Checking}
use Rattle.regions.proofs.in_turn.check_in_turn.Given as goal

abbrev pub invariant-loop-machine : goal.invariant-loop-machine
invariant-loop-machine l =
    MoveRows l.moves.pre l.moves.post
    × ((event : List ℕ) → Indexed event l.plan.counts.transitions l.chains.first.now l.chains.next.now → (ats lens sizes : List ℕ) → Bounded (tables_in l.plan.counts ats lens l.plan.source event l.plan.target sizes l.plan.duplicate l.plan.place)
    → Checking (tables_in l.plan.counts ats lens l.plan.source event l.plan.target sizes l.plan.duplicate l.plan.place) l.machine l.moves.pre l.moves.post)
