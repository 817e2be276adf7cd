-- `merging::bars::extend` meets its contract: the events passed have their sets. The laws are in `Later`.
use Rattle.merging.proofs.Later.{Extending}
use Rattle.merging.proofs.bars.extend.Given as goal

abbrev pub invariant-loop-e : goal.invariant-loop-e
invariant-loop-e l = Extending l.sets l.pre l.m l.events l.initial.later l.later l.e
