-- `merging::numbers::fill` meets its contract.
use native.Mathlib.Omega.{arith}
use Rattle.merging.proofs.Uniting.{fill_more}
use Rattle.merging.proofs.numbers.fill.Goals as goal

pub loop-e-preserved : goal.loop-e-preserved
loop-e-preserved c = fill_more _ c.loop-e.invariant (omega arith) c.first_numbers-all.ensures c.store.ensures
