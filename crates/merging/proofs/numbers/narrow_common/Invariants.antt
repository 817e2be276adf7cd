-- `merging::numbers::narrow_common` meets its contract.
use Rattle.merging.proofs.Uniting.{Narrowing}
use Rattle.merging.proofs.numbers.narrow_common.Given as goal

abbrev pub invariant-loop-e : goal.invariant-loop-e
invariant-loop-e l = Narrowing l.unions l.pre l.m l.events l.initial.earlier l.earlier l.e
