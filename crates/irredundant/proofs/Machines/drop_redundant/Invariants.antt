-- `Machines::drop_redundant` meets its contract: the marks of the machines passed are those that thinning keeps. The laws are in `Examined`.
use Rattle.irredundant.proofs.Examined.{Thinning}
use Rattle.irredundant.proofs.Machines.drop_redundant.Given as goal

abbrev pub invariant-loop-m : goal.invariant-loop-m
invariant-loop-m l =
    Thinning l.self.excited.now l.self.sets.now l.self.pre.now l.self.count l.self.events l.above.common l.above.on l.kept l.size l.m
