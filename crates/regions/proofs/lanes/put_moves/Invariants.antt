-- `put_moves` meets its contract. The laws are in `Putting`.
use Rattle.regions.specs.Columns.{EventsPut}
use Rattle.regions.proofs.lanes.put_moves.Given as goal

abbrev pub invariant-loop-e : goal.invariant-loop-e
invariant-loop-e l = EventsPut l.plan.source l.plan.target l.chains.first.now l.columns l.e l.moves.pre l.moves.post
