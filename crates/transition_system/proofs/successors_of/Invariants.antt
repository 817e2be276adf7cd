-- Each turn joins the set of one state more, and leaves one less. The laws are in `Images`.
use Rattle.transition_system.proofs.Images.{size, Joined}
use Rattle.transition_system.proofs.successors_of.Given as goal

abbrev pub invariant-loop-s : goal.invariant-loop-s
invariant-loop-s l = Joined l.successors l.initial.rest l.rest l.all

abbrev pub decreases-loop-s : goal.decreases-loop-s
decreases-loop-s l = size l.rest
