-- `printing::write_transitions` meets its contract: the lines of the transitions passed are written. The laws are in `Steps`.
use Rattle.printing.proofs.Steps.{Listed}
use Rattle.printing.proofs.write_transitions.Given as goal

abbrev pub invariant-loop-k : goal.invariant-loop-k
invariant-loop-k l = Listed l.plan.source l.plan.event l.plan.target l.plan.counts.transitions l.at l.initial.out l.out l.i l.k
