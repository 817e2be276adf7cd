-- `board_service::running::odd_name` meets its contract: the loop keeps `Seeking`.
use Rattle.std.proofs.Common.{◌-◌, length}
use Rattle.board_service.proofs.Seeking.{Seeking}
use Rattle.board_service.proofs.running.odd_name.Given as goal

abbrev pub invariant-loop-i : goal.invariant-loop-i
invariant-loop-i l = Seeking l.names l.at l.before l.sheet.count l.sheet.«len» l.sheet.high l.sheet.low l.position l.i

abbrev pub decreases-loop-i : goal.decreases-loop-i
decreases-loop-i l = length l.names - l.i
