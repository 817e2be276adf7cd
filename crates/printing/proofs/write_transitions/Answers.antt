-- `printing::write_transitions` meets its contract: the lines of the transitions passed are written. The laws are in `Steps`.
use Rattle.printing.proofs.Steps.{listed_none, listed_add, listed_end}
use Rattle.printing.proofs.write_transitions.Goals as goal

pub loop-k-init : goal.loop-k-init
loop-k-init c = listed_none

pub loop-k-preserved : goal.loop-k-preserved
loop-k-preserved c =
    listed_add c.loop-k.invariant c.loop-k-test.true c.write_transition-i.ensures.writes c.write_transition-i.ensures.upper_bound

pub returns : goal.returns
returns c = listed_end c.loop-k.invariant c.loop-k-test.false
