-- `merging::numbers::renumber_moves` meets its contract.
use Rattle.merging.proofs.Renumbering.{Renumbering}
use Rattle.merging.proofs.numbers.renumber_moves.Given as goal

abbrev pub invariant-loop-e : goal.invariant-loop-e
invariant-loop-e l = Renumbering l.number l.m l.events l.initial.moves.pre l.initial.moves.post l.moves.pre l.moves.post l.e
