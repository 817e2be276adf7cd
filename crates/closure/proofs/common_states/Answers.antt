-- The pre-places on the machines passed are met. The laws are in `Meeting`.
use Rattle.closure.proofs.Meeting.{meet_start, meet_more}
use Rattle.closure.proofs.common_states.Goals as goal

pub loop-m-init : goal.loop-m-init
loop-m-init c = meet_start

pub loop-m-preserved : goal.loop-m-preserved
loop-m-preserved c = meet_more c.loop-m.invariant c.loop-m-test.true c.meet_pre-common.ensures
