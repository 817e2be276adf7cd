-- `product::step` meets its contract: what the lanes say, and the search where one blocks. The laws are in `Moving`.
use Rattle.std.proofs.Common.{rules}
use Rattle.product.proofs.Moving.{lane_end, lane_blocked}
use Rattle.product.proofs.step.Goals as goal

pub returns-in-Some : goal.returns-in-Some
returns-in-Some c = lane_end c.requires.0 (search rules) (c.in-Some.ensures _ c.requires.1)

pub returns : goal.returns
returns c = lane_blocked c.requires.0 (search rules) (c.in_default.ensures _ c.requires.1) _ c.blocking_machine.ensures
