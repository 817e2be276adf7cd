-- `Machines::add` meets its contract: the events passed are effective and met. The laws are in `Adding`.
use Rattle.irredundant.proofs.Adding.{Adding}
use Rattle.irredundant.proofs.Machines.add.Given as goal

abbrev pub invariant-loop-e : goal.invariant-loop-e
invariant-loop-e l = Adding l.self.sets.now l.self.pre.now l.m l.self.events l.initial.above.common l.initial.above.on l.above.common l.above.on l.e
