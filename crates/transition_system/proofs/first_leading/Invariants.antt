-- The transitions passed lead elsewhere. The laws are in `Leading`.
use Prim.Native.Nat.{ℕ, ◌<◌}
use Rattle.transition_system.proofs.Leading.{LeadsAt}
use Rattle.transition_system.proofs.first_leading.Given as goal

abbrev pub invariant-loop-k : goal.invariant-loop-k
invariant-loop-k l = (j : ℕ) → j < l.k → LeadsAt l.transitions.source.now l.transitions.event.now l.s l.e j → ⊥
