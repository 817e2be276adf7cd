-- The events passed are excited. The laws are in `Unused`.
use Prim.Native.Nat.{ℕ, ◌<◌}
use Rattle.transition_system.proofs.Unused.{Idle}
use Rattle.transition_system.proofs.unused_event.Given as goal

abbrev pub invariant-loop-e : goal.invariant-loop-e
invariant-loop-e l = (j : ℕ) → j < l.e → Idle l.excited j → ⊥
