-- `numbers::gather` meets its contract: each turn takes the lowest place that is free, and leaves fewer. The laws are in `Gathering`.
use Rattle.merging.proofs.Gathering.{size_of, Gathering}
use Rattle.merging.proofs.numbers.gather.Given as goal

abbrev pub invariant-loop-q : goal.invariant-loop-q
invariant-loop-q l = Gathering l.bars l.initial.number l.initial.rest l.first l.group l.rest l.free l.number

abbrev pub decreases-loop-q : goal.decreases-loop-q
decreases-loop-q l = size_of l.rest
