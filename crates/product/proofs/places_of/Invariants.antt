-- `product::places_of` meets its contract: the machines passed have their places.
use Rattle.std.proofs.Common.{◌+◌, ◌*◌}
use Rattle.rows.specs.Told.{entry}
use Rattle.product.specs.Stepping.{Standing}
use Rattle.product.proofs.places_of.Given as goal

abbrev pub invariant-loop-m : goal.invariant-loop-m
invariant-loop-m l = Standing (λ k. entry l.plan.place (k * 256 + l.state)) l.m l.places
