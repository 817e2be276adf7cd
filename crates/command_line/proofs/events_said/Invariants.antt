-- `command_line::events_said` meets its contract: each turn takes a word and leaves an event. The laws are in `Taking`.
use Prim.Native.Nat.{◌-◌}
use lib.ListN.{length}
use Rattle.rows.specs.Names.{names_in}
use Rattle.command_line.proofs.Taking.{Taken}
use Rattle.command_line.proofs.events_said.Given as goal

abbrev pub invariant-loop-at : goal.invariant-loop-at
invariant-loop-at l = Taken (names_in l.text l.names.at.now l.names.«len».now l.names.count) l.initial.words l.words l.n l.at

abbrev pub decreases-loop-at : goal.decreases-loop-at
decreases-loop-at l = length l.initial.words - l.at
