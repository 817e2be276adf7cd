-- `board_service::name_list::look_up` meets its contract: the laws are in `Looking`.
use Rattle.board_service.proofs.Looking.{looks_hinted}
use Rattle.board_service.proofs.name_list.look_up.Goals as goal

pub returns-then-is_at : goal.returns-then-is_at
returns-then-is_at c = looks_hinted c.if-k-sheet.true (c.is_at.ensures c.if-is_at.true)
