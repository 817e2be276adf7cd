-- `merging::bars::meet_later` meets its contract: from the last machine down, one further at each turn. The laws are in `Later`.
use Rattle.merging.proofs.Later.{Extended}
use Rattle.merging.proofs.bars.meet_later.Given as goal

abbrev pub invariant-loop-m : goal.invariant-loop-m
invariant-loop-m l = Extended l.sets l.pre l.machines l.events l.initial.later l.later l.m
