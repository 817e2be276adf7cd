-- `run_service::run` meets its contract: what is read into the rows is what `run_in_split` asks for.
use Rattle.run_service.proofs.run.Goals as goal

pub run_in_split-requires : goal.run_in_split-requires
run_in_split-requires c = (_, c.read_as_far_as_12-read.ensures)
