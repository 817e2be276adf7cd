-- `command_line::names_said` meets its contract: each turn leaves a byte of the list of names. The laws are in `Ending`.
use Rattle.command_line.proofs.Ending.{Turned}
use Rattle.command_line.proofs.names_said.Given as goal

abbrev pub invariant-loop-b : goal.invariant-loop-b
invariant-loop-b l = Turned l.initial.words l.words l.b-index
