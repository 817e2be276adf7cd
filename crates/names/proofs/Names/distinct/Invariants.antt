-- `names::Names::distinct` meets its contract: the names passed are the first of their own. The laws are in `Lookup`.
use Rattle.names.proofs.Lookup.{Firsts}
use Rattle.names.proofs.Names.distinct.Given as goal

abbrev pub invariant-loop-k : goal.invariant-loop-k
invariant-loop-k l = Firsts l.self.count l.self.«len» l.self.high l.self.low l.k
