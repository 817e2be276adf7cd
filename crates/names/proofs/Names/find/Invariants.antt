-- `names::Names::find` meets its contract: the entries passed are others. The laws are in `Lookup`.
use Rattle.std.proofs.Common.{ℕ, ◌<◌}
use Rattle.names.specs.Held.{Same}
use Rattle.names.proofs.Names.find.Given as goal

abbrev pub invariant-loop-k : goal.invariant-loop-k
invariant-loop-k l = (j : ℕ) → j < l.k → Same l.self.«len» l.self.high l.self.low l.name.«len» l.name.high l.name.low j → ⊥
