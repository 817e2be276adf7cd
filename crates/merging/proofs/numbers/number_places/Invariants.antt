-- `numbers::number_places` meets its contract: each turn makes a group, and leaves fewer places. The laws are in `Numbering`.
use Rattle.merging.proofs.Gathering.{size_of}
use Rattle.merging.proofs.Numbering.{Numbering}
use Rattle.merging.proofs.numbers.number_places.Given as goal

abbrev pub invariant-loop-first : goal.invariant-loop-first
invariant-loop-first l = Numbering l.bars l.size l.left l.groups l.number

abbrev pub decreases-loop-first : goal.decreases-loop-first
decreases-loop-first l = size_of l.left
