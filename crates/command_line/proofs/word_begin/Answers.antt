-- `command_line::word_begin` meets its contract: each turn passes a word. The laws are in `Cutting`.
use Rattle.command_line.proofs.Cutting.{before_next, before_number}
use Rattle.command_line.proofs.word_begin.Goals as goal

pub loop-preserved : goal.loop-preserved
loop-preserved c = before_next c.loop.invariant c.loop-test.true c.second_word-at.ensures.0 c.second_word-at.ensures.1

pub returns : goal.returns
returns c = before_number c.loop.invariant c.loop-test.false
