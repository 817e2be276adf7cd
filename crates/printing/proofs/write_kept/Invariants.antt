-- `printing::write_kept` meets its contract: the numbers of the machines kept among those passed are written. The laws are in `Kept`.
use Rattle.printing.proofs.Kept.{Keeping}
use Rattle.printing.proofs.write_kept.Given as goal

abbrev pub invariant-loop-m : goal.invariant-loop-m
invariant-loop-m l = Keeping l.machines l.at l.initial.out l.out l.i l.m
