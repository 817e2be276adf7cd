-- `product::move_lanes` meets its contract: the machine numbers passed are asked, and have moved if all are ready. The laws are in `Moving`.
use Rattle.std.proofs.Common.{ℕ}
use Rattle.product.specs.Stepping.{PlaceBounds}
use Rattle.product.specs.Lanes.{Lanes}
use Rattle.product.proofs.move_lanes.Given as goal

abbrev pub invariant-loop-m : goal.invariant-loop-m
invariant-loop-m l = (machines : ℕ) → PlaceBounds machines l.bounds → Lanes l.moves.pre l.moves.post machines l.places l.e l.moved l.ready l.m
