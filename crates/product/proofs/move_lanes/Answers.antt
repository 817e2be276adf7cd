-- `product::move_lanes` meets its contract: the machine numbers passed are asked, and have moved if all are ready. The laws are in `Moving`.
use Rattle.std.proofs.Common.{◌≡◌, ℕ, List, ap, arith, get_or}
use Rattle.product.proofs.Moving.{lane_more, lane_all}
use Rattle.product.proofs.move_lanes.Goals.{Start}
use Rattle.product.proofs.move_lanes.Goals as goal

sixteen : (c : Start) → get_or c.args.count.now 0 0 ≡ 16
sixteen c = ap (λ (l : List ℕ). get_or l 0 0) c.requires.1

pub loop-m-preserved : goal.loop-m-preserved
loop-m-preserved c = λ machines b. lane_more (c.loop-m.invariant machines b) (omega (arith, sixteen (goal.at.loop-m-preserved c).Start)) b c.is_ready-ready.ensures c.place_after.ensures

pub returns-then-ready : goal.returns-then-ready
returns-then-ready c = λ machines b. rw c.if-ready.true at (lane_all (c.loop-m.invariant machines b) (omega (arith, sixteen (goal.at.returns-then-ready c).Start)))
