-- Each turn keeps what a search holds, and leaves fewer states to be done. When no state waits, the found ones are those that are reached.
use Rattle.transition_system.proofs.Worklist.{remaining, Search}
use Rattle.transition_system.proofs.reached.Given as goal

abbrev pub invariant-loop-waiting : goal.invariant-loop-waiting
invariant-loop-waiting l = Search l.successors l.initial' l.found l.waiting

abbrev pub decreases-loop-waiting : goal.decreases-loop-waiting
decreases-loop-waiting l = remaining l.found l.waiting
