-- `names::Names::distinct` meets its contract: the names passed are the first of their own. The laws are in `Lookup`.
use Rattle.std.proofs.Common.{sym, arith}
use borrow.Author.Tests.{not-true, not-false}
use Rattle.names.proofs.Lookup.{firsts_more, firsts_stop, firsts_end}
use Rattle.names.proofs.Names.distinct.Goals as goal

pub returns-then-ne : goal.returns-then-ne
returns-then-ne c = firsts_stop c.loop-k.invariant c.loop-k-test.true (rw c.name.ensures at c.find.ensures) (not-true _ (sym c.if-ne.ensures))

pub loop-k-preserved : goal.loop-k-preserved
loop-k-preserved c = firsts_more c.loop-k.invariant c.loop-k-test.true (rw c.name.ensures at c.find.ensures) (not-false _ (sym c.if-ne.ensures))

pub returns : goal.returns
returns c = firsts_end c.loop-k.invariant (omega arith)
