-- `merging::bars::extend` meets its contract: the events passed have their sets. The laws are in `Later`.
use native.Mathlib.Omega.{arith}
use Rattle.merging.proofs.Later.{extend_more}
use Rattle.merging.proofs.bars.extend.Goals as goal

pub loop-e-preserved : goal.loop-e-preserved
loop-e-preserved c =
    extend_more c.load-common.result c.meet_pre.result
    c.requires.0 c.loop-e.invariant (omega arith)
    c.load-common.ensures c.meet_pre.ensures (omega arith) (omega arith) c.store.ensures
