-- `command_line::is_name` meets its contract: the word is a name to its end.
use Rattle.std.proofs.Common.{rules}
use Rattle.command_line.proofs.WholeNames.{name_told}
use Rattle.command_line.proofs.is_name.Goals as goal

pub returns : goal.returns
returns c = let h = name_told c.args.word.now c.read_name.ensures in search rules
