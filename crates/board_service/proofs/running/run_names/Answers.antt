-- `board_service::running::run_names` meets its contract: the loop keeps `Going`.
use Rattle.std.proofs.Common.{rules, refl}
use Rattle.product.proofs.Moving.{lane_end, lane_stops, lane_blocked}
use Rattle.board_service.proofs.Going.{going_start, going_odd, going_end, going_more, going_blocked}
use Rattle.board_service.proofs.running.run_names.Goals as goal

pub loop-i-init : goal.loop-i-init
loop-i-init c = going_start c.requires.1 (search rules)

pub returns-in_default : goal.returns-in_default
returns-in_default c = going_odd c.requires.1 c.loop-i.invariant c.loop-i-test.true c.in_default.ensures c.refused.ensures

pub unwrap-machine-requires : goal.unwrap-machine-requires
unwrap-machine-requires c = lane_stops (c.in_default-move_lanes.ensures _ c.place_bounds-bounds.ensures) _ c.blocking_machine.ensures

pub returns-in_default-move_lanes : goal.returns-in_default-move_lanes
returns-in_default-move_lanes c =
    let few = c.requires.1 in
    let at = c.loop-i.invariant in
    going_blocked few at c.in-Some.ensures (lane_blocked few at.size (c.in_default-move_lanes.ensures _ c.place_bounds-bounds.ensures) _ c.blocking_machine.ensures) c.unwrap-machine.ensures c.end_blocked.ensures

pub loop-i-preserved : goal.loop-i-preserved
loop-i-preserved c =
    let few = c.requires.1 in
    let at = c.loop-i.invariant in
    going_more few at c.in-Some.ensures (lane_end few at.size (c.in-Some-move_lanes.ensures _ c.place_bounds-bounds.ensures)) refl

pub returns : goal.returns
returns c = going_end c.requires.1 c.loop-i.invariant c.loop-i-test.false
