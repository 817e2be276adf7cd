-- `product::blocking_machine` meets its contract: the machines passed do not block. The laws are in `Moving`.
use Rattle.std.proofs.Common.{arith, below_more}
use Rattle.model.proofs.Laws.{lowest_is, none_lowest}
use Rattle.product.proofs.Moving.{passes, blocks}
use Rattle.product.proofs.blocking_machine.Goals as goal

pub returns-then-not-is_ready : goal.returns-then-not-is_ready
returns-then-not-is_ready c =
    lowest_is _ _ c.loop-m.m c.loop-m-test.true (blocks _ _ _ c.loop-m.m c.is_ready.ensures c.if-not-is_ready.true) c.loop-m.invariant

pub loop-m-preserved : goal.loop-m-preserved
loop-m-preserved c = below_more _ _ c.loop-m.invariant (passes _ _ _ c.loop-m.m c.is_ready.ensures c.if-not-is_ready.false)

pub returns : goal.returns
returns c = none_lowest _ _ (λ k l. c.loop-m.invariant k (omega arith))
