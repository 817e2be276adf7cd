-- `Machines::meet_below` meets its contract: the machines passed have their sets. The laws are in `Extending`.
use Rattle.irredundant.proofs.Extending.{Extended}
use Rattle.irredundant.proofs.Machines.meet_below.Given as goal

abbrev pub invariant-loop-m : goal.invariant-loop-m
invariant-loop-m l = Extended l.self.sets.now l.self.pre.now l.self.events l.initial.below l.below l.m
