-- `names::Names::find` meets its contract: the entries passed are others. The laws are in `Lookup`.
use Rattle.std.proofs.Common.{arith}
use Rattle.names.proofs.Lookup.{finds, finds_none}
use Rattle.names.proofs.Names.find.Goals as goal

pub returns-then-self-k-3 : goal.returns-then-self-k-3
returns-then-self-k-3 c =
    finds c.loop-k.invariant c.loop-k-test.true
    (record { low = c.if-self-k.true; high = c.if-self-k-2.true; long = c.if-self-k-3.true })

pub returns : goal.returns
returns c = finds_none (λ j b. c.loop-k.invariant j (omega arith))
