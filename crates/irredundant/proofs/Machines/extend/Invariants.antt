-- `Machines::extend` meets its contract: the events passed have their sets on one machine more. The laws are in `Extending`.
use Rattle.irredundant.proofs.Extending.{Extending}
use Rattle.irredundant.proofs.Machines.extend.Given as goal

abbrev pub invariant-loop-e : goal.invariant-loop-e
invariant-loop-e l = Extending l.self.sets.now l.self.pre.now l.m l.self.events l.initial.below l.below l.e
