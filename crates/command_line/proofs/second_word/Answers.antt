-- `command_line::second_word` meets its contract: a law of `Cutting`.
use Rattle.command_line.proofs.Cutting.{further_from}
use Rattle.command_line.proofs.second_word.Goals as goal

pub returns : goal.returns
returns c = further_from c.word_end.ensures c.min.ensures
