-- `command_line::word_begin` meets its contract: each turn passes a word. The laws are in `Cutting`.
use Rattle.command_line.proofs.Cutting.{WordsBefore}
use Rattle.command_line.proofs.word_begin.Given as goal

abbrev pub invariant-loop : goal.invariant-loop
invariant-loop l = WordsBefore l.number l.words l.counter l.at
