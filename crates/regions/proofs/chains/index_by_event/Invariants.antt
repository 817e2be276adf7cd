-- `index_by_event` meets its contract. The laws are in `Indexing`.
use Rattle.std.proofs.Common.{◌≡◌, length}
use Rattle.regions.proofs.chains.Indexing.{Indexing}
use Rattle.regions.proofs.chains.index_by_event.Given as goal

abbrev pub invariant-loop-k : goal.invariant-loop-k
invariant-loop-k l = Indexing l.plan.event l.plan.counts.transitions l.k l.first l.next × (length l.next ≡ length l.initial.next)
