-- `product::run_from` meets its contract: the events passed ran. The laws are in `Running`.
use Rattle.product.proofs.Running.{run_more, run_blocked, run_end}
use Rattle.product.proofs.run_from.Goals as goal

pub returns-in-Some : goal.returns-in-Some
returns-in-Some c = run_blocked c.loop-ran.invariant c.loop-ran-test.true c.requires.2 c.from.ensures c.step-next.ensures c.in-Some.is

pub loop-ran-preserved : goal.loop-ran-preserved
loop-ran-preserved c =
    run_more c.loop-ran.invariant c.loop-ran-test.true c.requires.2 c.from.ensures c.step-next.ensures c.requires.0 c.in_default.is

pub returns : goal.returns
returns c = run_end c.loop-ran.invariant c.loop-ran-test.false
