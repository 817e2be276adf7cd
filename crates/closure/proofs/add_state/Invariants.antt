-- The machines passed have the state in its place. The laws are in `Filling`.
use lib.ListN.{length}
use Rattle.closure.proofs.Filling.{Filling}
use Rattle.closure.proofs.add_state.Given as goal

abbrev pub invariant-loop-m : goal.invariant-loop-m
invariant-loop-m l = Filling l.place (length l.initial.sets) l.machines l.x l.sets l.m
