-- `command_line::numerals::value` meets its contract: the loop cuts the number down to the bound digit by digit. The laws are in `Counting`.
use Rattle.command_line.proofs.Counting.{Counted}
use Rattle.command_line.proofs.numerals.value.Given as goal

abbrev pub invariant-loop-b : goal.invariant-loop-b
invariant-loop-b l = Counted l.word l.most l.n l.b-index
