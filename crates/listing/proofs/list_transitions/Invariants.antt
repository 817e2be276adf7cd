-- `listing::list_transitions` meets its contract: the transitions passed are written. The laws are in `Numbers`.
use lib.ListN.{length}
use Rattle.listing.proofs.Numbers.{Listed}
use Rattle.listing.proofs.list_transitions.Given as goal

abbrev pub invariant-loop-k : goal.invariant-loop-k
invariant-loop-k l = Listed l.transitions.source.now l.transitions.event.now l.transitions.target.now (length l.initial.numbers) l.numbers l.k
