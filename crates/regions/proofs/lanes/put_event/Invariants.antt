-- `put_event` meets its contract. The laws are in `Putting`.
use Rattle.regions.specs.Columns.{EventPut}
use Rattle.regions.proofs.lanes.put_event.Given as goal

abbrev pub invariant-loop-m : goal.invariant-loop-m
invariant-loop-m l = EventPut l.columns l.from l.to l.e l.initial.moves.pre l.initial.moves.post l.moves.pre l.moves.post l.m
