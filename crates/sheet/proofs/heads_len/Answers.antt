-- `sheet::heads_len` meets its contract: the sum is over the machines passed.
use native.Mathlib.Omega.{arith}
use mathlib.Core.Path.{refl}
use Rattle.writers.proofs.Figures.{length_same}
use Rattle.sheet.specs.Lengths.{heads_length}
use Rattle.sheet.proofs.Lengths.{heads_more}
use Rattle.sheet.proofs.heads_len.Goals as goal

pub loop-m-init : goal.loop-m-init
unfolding heads_length
loop-m-init c = (refl, omega arith)

pub loop-m-preserved : goal.loop-m-preserved
loop-m-preserved c =
    let a = c.args in
    let inv = c.loop-m.invariant in
    let more = heads_more a.plan.now.sizes a.plan.now.place a.plan.now.counts.initial c.loop-m.m in
    let w = length_same c.from.ensures in
    (omega arith, omega arith)
