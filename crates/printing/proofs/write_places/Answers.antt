-- `printing::write_places` meets its contract: the places of the machines passed are written. The laws are in `Places`.
use native.Mathlib.Omega.{arith}
use Rattle.printing.proofs.Places.{placed_none, placed_add, placed_end}
use Rattle.printing.proofs.write_places.Goals as goal

pub loop-place-init : goal.loop-place-init
loop-place-init c = placed_none

pub loop-place-preserved : goal.loop-place-preserved
loop-place-preserved c =
    placed_add c.loop-place.invariant c.loop-place-test.true c.from.ensures (omega (arith, c.from.ensures)) c.write_bytes-a.ensures
    c.write_numeral-i.ensures

pub returns : goal.returns
returns c =
    placed_end c.write_bytes-i.ensures c.loop-place.invariant c.loop-place-test.false c.write_bytes.ensures
