-- `Machines::extend` meets its contract: the events passed have their sets on one machine more. The laws are in `Extending`.
use native.Mathlib.Omega.{arith}
use Rattle.irredundant.proofs.Extending.{extend_more}
use Rattle.irredundant.proofs.Machines.extend.Goals as goal

pub loop-e-preserved : goal.loop-e-preserved
loop-e-preserved c =
    extend_more c.load-common.result c.meet_pre.result
    c.requires.0 c.loop-e.invariant (omega arith)
    c.load-common.ensures c.meet_pre.ensures (omega arith) c.store.ensures
