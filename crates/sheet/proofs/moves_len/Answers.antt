-- `sheet::moves_len` meets its contract: the sum is over the events passed.
use native.Mathlib.Omega.{arith}
use mathlib.Core.Path.{refl}
use Rattle.sheet.specs.Lengths.{moves_length}
use Rattle.sheet.proofs.Lengths.{moves_more}
use Rattle.sheet.proofs.moves_len.Goals as goal

pub loop-e-init : goal.loop-e-init
unfolding moves_length
loop-e-init c = (refl, omega arith)

pub loop-e-preserved : goal.loop-e-preserved
loop-e-preserved c =
    let a = c.args in
    let n = moves_more a.plan.now.name_len a.moves.now.pre a.moves.now.post a.plan.now.counts.machines c.loop-e.e in
    (omega arith, omega arith)
