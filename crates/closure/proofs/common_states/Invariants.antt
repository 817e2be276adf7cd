-- The pre-places on the machines passed are met. The laws are in `Meeting`.
use Rattle.closure.proofs.Meeting.{Meeting}
use Rattle.closure.proofs.common_states.Given as goal

abbrev pub invariant-loop-m : goal.invariant-loop-m
invariant-loop-m l = Meeting l.sets l.pre l.e l.machines l.common l.m
