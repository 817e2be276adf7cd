-- `transpose` meets its contract. The laws are in `Columns`.
use Rattle.std.proofs.Common.{arith}
use Rattle.regions.proofs.lanes.Columns.{transpose_more}
use Rattle.regions.proofs.lanes.transpose.Goals as goal

pub loop-m-preserved : goal.loop-m-preserved
loop-m-preserved c =
    let p = c.put_lane in
    transpose_more (omega arith) c.loop-m.invariant p.ensures.put_lane (p.ensures.not_entry c.if-not-put_lane.false)
