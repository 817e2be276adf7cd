-- `writers::write_bytes` meets its contract: the bytes passed are written. The laws are in `Writing`.
use native.Mathlib.Omega.{arith}
use Rattle.writers.proofs.Writing.{begun_more}
use Rattle.writers.proofs.write_bytes.Goals as goal

pub loop-i-preserved : goal.loop-i-preserved
loop-i-preserved c = begun_more c.loop-i.invariant (omega arith)
