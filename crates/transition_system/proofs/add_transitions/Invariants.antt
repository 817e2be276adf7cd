-- The laws are in `Scanning`.
use lib.ListN.{length}
use Rattle.transition_system.proofs.Scanning.{SoFar}
use Rattle.transition_system.proofs.add_transitions.Given as goal

abbrev pub invariant-loop-k : goal.invariant-loop-k
invariant-loop-k l = SoFar l.transitions.source.now l.transitions.event.now l.transitions.target.now l.n (length l.initial.successors) l.k l.excited l.successors
