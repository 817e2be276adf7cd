-- `agrees` meets its contract: each way out is a case of `agreeing`.
use borrow.Author.Tests.{eq-eqb, ne_eqb}
use Rattle.regions.specs.Crossings.{agreeing}
use Rattle.regions.proofs.crossings.agrees.Goals as goal

pub returns-then-a : goal.returns-then-a
unfolding agreeing
returns-then-a c = simp (eq-eqb _ _ c.if-a.true)

pub returns-else-a : goal.returns-else-a
unfolding agreeing
returns-else-a c = simp (ne_eqb _ _ c.if-a.false) c.eq.ensures
