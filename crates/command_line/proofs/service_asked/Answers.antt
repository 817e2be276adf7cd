-- `command_line::service_asked` meets its contract: a law of `Cutting`.
use Rattle.std.proofs.Common.{rules}
use Rattle.command_line.proofs.Cutting.{asks_first}
use Rattle.command_line.proofs.service_asked.Goals as goal

pub returns : goal.returns
returns c = asks_first c.word_end.ensures (search rules) c.service_said.ensures
