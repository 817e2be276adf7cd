-- `Machines::drop_redundant` meets its contract: the marks of the machines passed are those that thinning keeps. The laws are in `Examined`.
use Prim.Native.Nat.{ℕ}
use native.Mathlib.Omega.{arith}
use mathlib.Core.Path.{ap}
use mathlib.Core.List.{List}
use mathlib.Core.Bool.{Bool}
use Rattle.irredundant.proofs.Examined.{added, same, thin_start, thin_more, thin_end}
use Rattle.irredundant.specs.declared.Above.{Above}
use Rattle.irredundant.proofs.Machines.drop_redundant.Goals.{Joined-stays, then-stays, else-stays}
use Rattle.irredundant.proofs.Machines.drop_redundant.Goals as goal

pub loop-m-init : goal.loop-m-init
loop-m-init c = thin_start

abbrev common : Above → List ℕ
common a = a.common

abbrev on : Above → List Bool
on a = a.on

pub loop-m-preserved : goal.loop-m-preserved
loop-m-preserved c =
    rw (c.from.ensures, c.from-size.ensures)
    (thin_more c.requires.below c.loop-m.invariant (omega arith) c.is_redundant-stays.ensures
    (elim c.if-stays.branch [ then-stays w ↦ added _ _ w.if-stays.true w.add.ensures (ap common w.above-is) (ap on w.above-is) | else-stays w ↦ same w.if-stays.false (ap common w.above-is) (ap on w.above-is) ]))

pub returns : goal.returns
returns c = thin_end c.loop-m.invariant (omega arith)
