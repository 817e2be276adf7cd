-- `printing::print_run` meets its contract: what is printed of the answer is what is printed of the run.
use Rattle.printing.proofs.Showing.{shows_same}
use Rattle.printing.proofs.Runs.{machines_of, run_few, run_printed}
use Rattle.printing.proofs.print_run.Goals as goal

pub print_ran-requires : goal.print_ran-requires
print_ran-requires c = run_few _ _ _ c.run_in_split-answer.ensures _ (machines_of c.requires.1)

pub returns : goal.returns
returns c = shows_same (run_printed _ _ _ c.run_in_split-answer.ensures _ (machines_of c.requires.1)) c.print_ran.ensures
