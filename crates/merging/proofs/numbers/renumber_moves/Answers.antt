-- `merging::numbers::renumber_moves` meets its contract.
use native.Mathlib.Omega.{arith}
use mathlib.Core.Path.{refl, ap}
use Rattle.rows.specs.declared.Moves.{Moves}
use Rattle.merging.proofs.Renumbering.{renumber_skip, renumber_more, renumber_end}
use Rattle.merging.proofs.numbers.renumber_moves.Goals as goal
use Rattle.merging.proofs.numbers.renumber_moves.Goals.{then-old-lt-MAX_PLACES, else-old-lt-MAX_PLACES}

pub loop-e-preserved : goal.loop-e-preserved
loop-e-preserved c =
    elim c.if-old-lt-MAX_PLACES.branch [
      | then-old-lt-MAX_PLACES w ↦ renumber_more c.requires.m_bound.0 (omega arith) c.requires.m_bound.2.small c.loop-e.invariant (omega arith) c.from-old.ensures w.if-old-lt-MAX_PLACES.true w.from.ensures refl refl w.new_pre.ensures (ap (λ (x : Moves). x.pre) w.moves-is) (ap (λ (x : Moves). x.post) w.moves-is)
      | else-old-lt-MAX_PLACES w ↦ renumber_skip c.loop-e.invariant (omega arith) c.from-old.ensures w.if-old-lt-MAX_PLACES.false (ap (λ (x : Moves). x.pre) w.moves-is) (ap (λ (x : Moves). x.post) w.moves-is)
    ]

pub returns : goal.returns
returns c = renumber_end c.loop-e.invariant (omega arith)
