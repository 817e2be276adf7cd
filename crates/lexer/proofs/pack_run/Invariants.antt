-- `lexer::pack_run` meets its contract: the loop's invariant and its laws are in `Packing`.
use Prim.Native.Nat.{◌+◌}
use Rattle.lexer.proofs.Packing.{Packing}
use Rattle.lexer.proofs.pack_run.Given as goal

abbrev pub invariant-loop-k : goal.invariant-loop-k
invariant-loop-k l = Packing l.s l.from l.value (l.from + l.k)
