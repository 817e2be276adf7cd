-- `product::run_from` meets its contract: the events passed ran. The laws are in `Running`.
use Rattle.product.proofs.Running.{Running}
use Rattle.product.proofs.run_from.Given as goal

abbrev pub invariant-loop-ran : goal.invariant-loop-ran
invariant-loop-ran l = Running l.moves.pre l.moves.post l.machines l.initial.places l.events l.places l.ran
