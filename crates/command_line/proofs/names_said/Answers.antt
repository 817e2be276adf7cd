-- `command_line::names_said` meets its contract: each turn leaves a byte of the list of names. The laws are in `Ending`.
use Rattle.command_line.proofs.Ending.{turned_all}
use Rattle.command_line.proofs.names_said.Goals as goal

pub returns : goal.returns
returns c = turned_all c.loop-b.invariant c.loop-b-test.false c.requires
