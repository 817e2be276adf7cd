-- `put_event` meets its contract. The laws are in `Putting`.
use Rattle.std.proofs.Common.{refl, arith}
use Rattle.regions.specs.Columns.{lane_at}
use Rattle.regions.proofs.lanes.Putting.{lane_put}
use Rattle.regions.proofs.lanes.put_event.Goals as goal

pub loop-m-preserved : goal.loop-m-preserved
unfolding lane_at
loop-m-preserved c = lane_put (omega arith) (omega arith) c.pre_of.ensures refl c.loop-m.invariant
