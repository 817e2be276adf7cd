-- `lexer::read_literal` meets its contract: the loop compares two texts, and `Runs` has its laws.
use Rattle.lexer.proofs.Runs.{match_differ, match_short}
use Rattle.lexer.proofs.read_literal.Goals as goal
use Rattle.lexer.proofs.read_literal.Goals.{then-s-at-via-then-s-at, then-s-at-via-else-s-at+then-s-at-2}

pub returns-then-s-at : goal.returns-then-s-at
returns-then-s-at c =
    elim c.then-s-at.branch [
      | then-s-at-via-then-s-at w ↦ match_short c.loop-i.invariant c.loop-i-test.true w.if-s-at.true
      | then-s-at-via-else-s-at+then-s-at-2 w ↦ match_differ c.loop-i.invariant c.loop-i-test.true w.if-s-at.false w.if-s-at-2.true
    ]
