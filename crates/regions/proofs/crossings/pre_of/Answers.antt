-- `pre_of` meets its contract: each way out is a case of `pre_mark`.
use borrow.Author.Tests.{eq-eqb, ne_eqb}
use Rattle.regions.specs.Crossings.{pre_mark}
use Rattle.regions.proofs.crossings.pre_of.Goals as goal

pub returns-then-a : goal.returns-then-a
unfolding pre_mark
returns-then-a c = simp (eq-eqb _ _ c.if-a.true)

pub returns-else-a : goal.returns-else-a
unfolding pre_mark
returns-else-a c = simp (ne_eqb _ _ c.if-a.false)
