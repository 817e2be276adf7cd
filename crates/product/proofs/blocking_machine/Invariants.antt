-- `product::blocking_machine` meets its contract: the machines passed do not block. The laws are in `Moving`.
use Rattle.std.proofs.Common.{ℕ, ◌<◌, T, not}
use Rattle.product.specs.Stepping.{blocks_at}
use Rattle.product.proofs.blocking_machine.Given as goal

abbrev pub invariant-loop-m : goal.invariant-loop-m
invariant-loop-m l = (k : ℕ) → k < l.m → T (not (blocks_at l.pre l.places l.e k))
