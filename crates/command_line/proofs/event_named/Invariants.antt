-- `command_line::event_named` meets its contract: the names passed are others. The laws are in `Declaring`.
use mathlib.Core.Path.{◌≡◌}
use mathlib.Core.Bool.{false}
use Rattle.model.specs.Bytes.{same_name}
use Rattle.rows.proofs.Searches.{Upto}
use Rattle.rows.proofs.Names.{name_in}
use Rattle.command_line.proofs.event_named.Given as goal

abbrev pub invariant-loop-e : goal.invariant-loop-e
invariant-loop-e l = Upto (λ j. same_name l.word (name_in l.text l.names.at.now l.names.«len».now j) ≡ false) l.names.count l.e
