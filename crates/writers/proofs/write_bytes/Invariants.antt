-- `writers::write_bytes` meets its contract: the bytes passed are written. The laws are in `Writing`.
use Rattle.writers.proofs.Writing.{Begun}
use Rattle.writers.proofs.write_bytes.Given as goal

abbrev pub invariant-loop-i : goal.invariant-loop-i
invariant-loop-i l = Begun l.word l.at l.initial.out l.out l.i
