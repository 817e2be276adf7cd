-- `lexer::read_literal` meets its contract: the loop compares two texts, and `Runs` has its laws.
use Rattle.lexer.proofs.Runs.{Matching}
use Rattle.lexer.proofs.read_literal.Given as goal

abbrev pub invariant-loop-i : goal.invariant-loop-i
invariant-loop-i l = Matching l.s l.at l.w l.i
