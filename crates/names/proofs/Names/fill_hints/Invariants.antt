-- `names::Names::fill_hints` meets its contract: a hint keeps all but the hints.
use Rattle.std.proofs.Common.{◌≡◌}
use Rattle.names.specs.Held.{with_hints}
use Rattle.names.proofs.Names.fill_hints.Given as goal

abbrev pub invariant-loop-k : goal.invariant-loop-k
invariant-loop-k l = l.self ≡ with_hints l.initial.self l.self.hints
