-- `put_lane` meets its contract. The laws are in `Columns`.
use Rattle.std.proofs.Common.{◌≡◌, ◌+◌, ◌*◌}
use Rattle.rows.specs.Told.{entry}
use Rattle.regions.proofs.lanes.Columns.{Flagged, Putting}
use Rattle.regions.proofs.lanes.put_lane.Given as goal

abbrev pub invariant-loop-x : goal.invariant-loop-x
invariant-loop-x l =
    Putting l.plan.place l.plan.counts.states l.m l.initial.columns l.columns l.x
    × Flagged (λ y. ¬ (entry l.plan.place (l.m * 256 + y) ≡ 255)) l.plan.counts.states l.x l.all
