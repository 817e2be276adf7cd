-- The events passed are closed. The laws are in `Searches`.
use mathlib.Core.Path.{◌≡◌}
use mathlib.Core.Option.{none}
use Rattle.rows.proofs.Searches.{Upto}
use Rattle.closure.specs.Covers.{open_in}
use Rattle.closure.proofs.check_closed.Given as goal

abbrev pub invariant-loop-e : goal.invariant-loop-e
invariant-loop-e l = Upto (λ j. open_in l.sets l.pre l.excited l.machines j ≡ none) l.events l.e
