-- `merging::numbers::first_numbers` meets its contract.
use Rattle.merging.proofs.Uniting.{FirstNumbers}
use Rattle.merging.proofs.numbers.first_numbers.Given as goal

abbrev pub invariant-loop-x : goal.invariant-loop-x
invariant-loop-x l = FirstNumbers l.n l.set l.x
