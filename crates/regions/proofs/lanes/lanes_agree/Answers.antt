-- `lanes_agree` meets its contract. The laws are in `Lanes`.
use Rattle.std.proofs.Common.{refl}
use Rattle.regions.specs.Columns.{lanes_agree}
use Rattle.regions.proofs.lanes.Lanes.{lanes_more}
use Rattle.regions.proofs.lanes.lanes_agree.Goals as goal

pub loop-m-init : goal.loop-m-init
unfolding lanes_agree
loop-m-init c = refl

pub loop-m-preserved : goal.loop-m-preserved
loop-m-preserved c = lanes_more _ _ _ _ _ _ _ c.loop-m.invariant
