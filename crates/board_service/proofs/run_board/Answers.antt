-- `board_service::run_board` meets its contract: the laws are in `Calling`.
use Rattle.board_service.proofs.Calling.{bad_read, good_read, board_bad, board_good}
use Rattle.board_service.proofs.run_board.Goals as goal

pub run_names-requires : goal.run_names-requires
run_names-requires c = let g = good_read c.in-Ok.ensures in (g.names, g.few)

pub returns-in-Ok : goal.returns-in-Ok
returns-in-Ok c = board_good (good_read c.in-Ok.ensures) _ c.run_names.ensures

pub returns-in-Err : goal.returns-in-Err
returns-in-Err c = board_bad _ _ _ (bad_read c.in-Err.ensures) c.refused.ensures
