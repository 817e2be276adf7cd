-- `writers::write_numeral` meets its contract: the digits before the last are written by a call of itself. The laws are in `Refusals`.
use native.Mathlib.Omega.{arith}
use Rattle.writers.proofs.Refusals.{numeral_short, numeral_stored, numeral_longer, numeral_room, numeral_added}
use Rattle.writers.proofs.+write_numeral.Goals as goal

pub bounds-out-at : goal.bounds-out-at
bounds-out-at t c = omega (arith, numeral_short c.if-n-lt10.true)

pub returns-then-n-lt10 : goal.returns-then-n-lt10
returns-then-n-lt10 t c = numeral_stored c.if-n-lt10.true c.digit.ensures

pub write_numeral-i-requires : goal.write_numeral-i-requires
write_numeral-i-requires t c = (omega arith, omega (arith, numeral_longer c.if-n-lt10.false c.ranges.n.fits))

pub bounds-out-i : goal.bounds-out-i
bounds-out-i t c = numeral_room c.if-n-lt10.false c.ranges.n.fits c.write_numeral-i.ensures c.requires

pub overflow_add-result-2 : goal.overflow_add-result-2
overflow_add-result-2 t c = record { fits = omega (arith, numeral_room c.if-n-lt10.false c.ranges.n.fits c.write_numeral-i.ensures c.requires) }

pub returns : goal.returns
returns t c = numeral_added c.if-n-lt10.false c.ranges.n.fits c.write_numeral-i.ensures c.digit-2.ensures
