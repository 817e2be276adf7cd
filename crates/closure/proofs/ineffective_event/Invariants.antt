-- The events passed are each on a machine. The laws are in `Effective`.
use Prim.Native.Nat.{ℕ, ◌<◌}
use mathlib.Core.Path.{◌≡◌}
use mathlib.Core.Bool.{true}
use Rattle.closure.specs.Covers.{on_some}
use Rattle.closure.proofs.ineffective_event.Given as goal

abbrev pub invariant-loop-e : goal.invariant-loop-e
invariant-loop-e l = (j : ℕ) → j < l.e → on_some l.pre j l.machines ≡ true
