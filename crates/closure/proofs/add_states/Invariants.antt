-- The states passed are in the sets of their places. The laws are in `Filling`.
use lib.ListN.{length}
use Rattle.closure.proofs.Filling.{Made}
use Rattle.closure.proofs.add_states.Given as goal

abbrev pub invariant-loop-x : goal.invariant-loop-x
invariant-loop-x l = Made l.plan.place l.plan.counts.states (length l.initial.sets) l.plan.counts.machines l.sets l.x
