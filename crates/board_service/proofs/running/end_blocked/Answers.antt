-- `board_service::running::end_blocked` meets its contract: the laws are in `Going`.
use Rattle.board_service.proofs.Going.{blocked_odd, blocked_fine}
use Rattle.board_service.proofs.running.end_blocked.Goals as goal

pub returns-in-Some : goal.returns-in-Some
returns-in-Some c = blocked_odd c.odd_name.ensures c.in-Some.is c.refused.ensures

pub returns : goal.returns
returns c = blocked_fine c.odd_name.ensures c.in_default.is
