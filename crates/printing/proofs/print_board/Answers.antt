-- `printing::print_board` meets its contract: what is printed of the answer is what is printed of the run.
use Rattle.printing.proofs.Showing.{shows_same}
use Rattle.printing.proofs.Runs.{board_few, board_printed}
use Rattle.printing.proofs.print_board.Goals as goal

pub print_ran-requires : goal.print_ran-requires
print_ran-requires c = board_few c.run_board-run.ensures

pub returns : goal.returns
returns c = shows_same (board_printed c.run_board-run.ensures) c.print_ran.ensures
