-- `merging::numbers::unite` meets its contract.
use Rattle.merging.proofs.Uniting.{Uniting}
use Rattle.merging.proofs.numbers.unite.Given as goal

abbrev pub invariant-loop-q : goal.invariant-loop-q
invariant-loop-q l = Uniting l.sets l.m l.size l.number l.unions l.q
