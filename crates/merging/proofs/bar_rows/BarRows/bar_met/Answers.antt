-- `BarRows::bar_met` meets its contract: the places passed are barred if they have one of the states. The laws are in `Pairing`.
use native.Mathlib.Omega.{arith}
use mathlib.Core.Path.{refl}
use Rattle.merging.proofs.Pairing.{meet_more, meet_skip}
use Rattle.merging.proofs.bar_rows.BarRows.bar_met.Goals as goal
use Rattle.merging.proofs.bar_rows.BarRows.bar_met.Goals.{then-have_in_common, else-have_in_common}

pub loop-q-preserved : goal.loop-q-preserved
loop-q-preserved c =
    elim c.if-have_in_common.branch [
      | then-have_in_common w ↦ meet_more c.load.result c.loop-q.invariant (omega arith) c.load.ensures refl c.have_in_common.ensures w.if-have_in_common.true w.bar.ensures w.bars-is
      | else-have_in_common w ↦ meet_skip c.load.result c.loop-q.invariant (omega arith) c.load.ensures c.have_in_common.ensures w.if-have_in_common.false w.bars-is
    ]
