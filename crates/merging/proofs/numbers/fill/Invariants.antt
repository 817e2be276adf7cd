-- `merging::numbers::fill` meets its contract.
use Rattle.merging.proofs.Uniting.{FilledSoFar}
use Rattle.merging.proofs.numbers.fill.Given as goal

abbrev pub invariant-loop-e : goal.invariant-loop-e
invariant-loop-e l = FilledSoFar l.n l.events l.row l.e
