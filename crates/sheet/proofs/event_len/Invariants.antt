-- `sheet::event_len` meets its contract: the moves on the machines passed are counted. The laws are in `Lengths`.
use Rattle.sheet.proofs.Lengths.{Counted}
use Rattle.sheet.proofs.event_len.Given as goal

abbrev pub invariant-loop-m : goal.invariant-loop-m
invariant-loop-m l = Counted l.moves.pre l.moves.post l.e l.machines l.lane l.m l.count l.figures
