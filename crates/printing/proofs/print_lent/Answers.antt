-- `printing::print_lent` meets its contract: what was left stands there still, and a refusal's line is written over it.
use borrow.Author.Rules.{rules}
use Rattle.printing.proofs.Checking.{shows_refused, shows_short, shows_left}
use Rattle.printing.proofs.print_lent.Goals as goal

pub returns-then-lent-size : goal.returns-then-lent-size
returns-then-lent-size c =
    shows_short _ _ _ c.in-Ok.is c.if-lent-size.true c.print_refusal-then-lent-size.ensures

pub returns-in-Err : goal.returns-in-Err
returns-in-Err c =
    shows_refused _ _ _ c.in-Err.is c.print_refusal.ensures

pub returns-else-lent-size : goal.returns-else-lent-size
returns-else-lent-size c =
    shows_left _ _ _ c.in-Ok.is c.if-lent-size.false (search rules) c.requires
