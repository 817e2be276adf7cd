-- `merging::numbers::new_pre` meets its contract.
use borrow.Author.Tests.{eq-eqb, ne_eqb}
use Rattle.merging.specs.Numbers.{new_pre}
use Rattle.merging.proofs.numbers.new_pre.Goals as goal

pub returns-then-p-q : goal.returns-then-p-q
unfolding new_pre
returns-then-p-q c = rw (eq-eqb _ _ c.if-p-q.true)

pub returns-else-p-q : goal.returns-else-p-q
unfolding new_pre
returns-else-p-q c = rw (ne_eqb _ _ c.if-p-q.false)
