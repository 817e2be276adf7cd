-- `Machines::add` meets its contract: the events passed are effective and met. The laws are in `Adding`.
use native.Mathlib.Omega.{arith}
use Rattle.irredundant.proofs.Adding.{add_more}
use Rattle.irredundant.proofs.Machines.add.Goals as goal

pub loop-e-preserved : goal.loop-e-preserved
loop-e-preserved c =
    add_more c.load-common.result c.meet_pre.result (omega arith) (omega arith) c.loop-e.invariant (omega arith)
    c.load-common.ensures c.meet_pre.ensures c.store.ensures c.is_on.ensures
