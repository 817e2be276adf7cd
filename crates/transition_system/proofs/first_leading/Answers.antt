-- The transitions passed lead elsewhere. The laws are in `Leading`.
use native.Mathlib.Omega.{arith}
use Rattle.transition_system.proofs.Leading.{leading}
use Rattle.transition_system.proofs.first_leading.Goals as goal

pub returns-then-transitions-k-2 : goal.returns-then-transitions-k-2
returns-then-transitions-k-2 c =
    (λ targets. leading targets (record { most = omega arith; each = c.loop-k.invariant }) (λ _. record { from = c.if-transitions-k.true; label = c.if-transitions-k-2.true }), omega arith)

pub returns : goal.returns
returns c =
    (λ targets. leading targets (record { most = omega arith; each = λ j l. c.loop-k.invariant j (omega arith) }) (λ l. absurd (omega arith)), omega arith)
