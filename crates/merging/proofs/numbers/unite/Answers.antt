-- `merging::numbers::unite` meets its contract.
use native.Mathlib.Omega.{arith}
use Rattle.merging.proofs.Uniting.{unite_more}
use Rattle.merging.proofs.numbers.unite.Goals as goal

pub loop-q-preserved : goal.loop-q-preserved
loop-q-preserved c =
    unite_more _ c.loop-q.invariant (omega arith) c.from.ensures c.load.ensures c.join_at.ensures
