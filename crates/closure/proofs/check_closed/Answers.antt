-- The events passed are closed. The laws are in `Searches`.
use native.Mathlib.Omega.{arith}
use mathlib.Core.Path.{sym}
use Rattle.model.specs.Cases.{tabled}
use Rattle.rows.specs.Tables.{verdict_refusal}
use Rattle.closure.proofs.Searches.{none_open, open_more, open_here}
use Rattle.closure.proofs.check_closed.Goals as goal

pub returns-in-Some : goal.returns-in-Some
unfolding verdict_refusal tabled
returns-in-Some c =
    open_here _ c.loop-e.invariant c.loop-e-test.true c.open_state.ensures c.in-Some.is c.from.ensures

pub loop-e-preserved : goal.loop-e-preserved
loop-e-preserved c =
    open_more _ c.loop-e.invariant c.loop-e-test.true c.open_state.ensures c.in_default.is

pub returns : goal.returns
unfolding verdict_refusal
returns c = sym (none_open _ _ (λ j l. c.loop-e.invariant.each j (omega arith)))
