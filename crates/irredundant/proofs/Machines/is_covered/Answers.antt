-- `Machines::is_covered` meets its contract: from what the calls gave. The laws are in `Covered`.
use Rattle.irredundant.proofs.Covered.{is_on_above, is_before, off_all, is_left}
use Rattle.irredundant.proofs.Machines.is_covered.Goals as goal
use Rattle.irredundant.proofs.Machines.is_covered.Goals.{else-not-above-e-via-then-not-above-e+else-not-is_effective, else-not-above-e-via-else-not-above-e}

pub returns-then-not-is_effective : goal.returns-then-not-is_effective
returns-then-not-is_effective c = off_all _ _ _ _ _ _ _ c.if-not-above-e.true c.is_effective.ensures c.if-not-is_effective.true

pub returns : goal.returns
returns c =
    is_left _ _ _ _ _ _ _ c.load.result c.load-2.result c.meet-common.result c.load-3.result c.without.result c.lowest.result
    c.load.ensures c.load-2.ensures c.meet-common.ensures c.load-3.ensures c.without.ensures c.lowest.ensures
    c.is_none.ensures (elim c.else-not-above-e.branch [ else-not-above-e-via-then-not-above-e+else-not-is_effective w ↦ is_before w.is_effective.ensures w.if-not-is_effective.false | else-not-above-e-via-else-not-above-e w ↦ is_on_above w.if-not-above-e.false ])
