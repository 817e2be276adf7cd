-- `board_service::running::run_names` meets its contract: the loop keeps `Going`.
use Rattle.std.proofs.Common.{◌-◌, length}
use Rattle.sheet_reader.specs.Lent.{lent}
use Rattle.board_service.proofs.Going.{Going}
use Rattle.board_service.proofs.running.run_names.Given as goal

abbrev pub invariant-loop-i : goal.invariant-loop-i
invariant-loop-i l = Going l.names l.machines l.sheet.names.count (lent l.sheet.names l.sheet.moves) l.initial.places l.places l.ran l.i

abbrev pub decreases-loop-i : goal.decreases-loop-i
decreases-loop-i l = length l.names - l.i
