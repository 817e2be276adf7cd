-- `command_line::service_said` meets its contract: the names passed are others. The laws are in `Spelling`.
use Rattle.command_line.proofs.Spelling.{Tried}
use Rattle.command_line.proofs.service_said.Given as goal

abbrev pub invariant-loop-name : goal.invariant-loop-name
invariant-loop-name l = Tried l.word l.name-items l.name-index
