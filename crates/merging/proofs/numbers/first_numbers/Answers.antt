-- `merging::numbers::first_numbers` meets its contract.
use Rattle.merging.proofs.Uniting.{first_start}
use Rattle.merging.proofs.numbers.first_numbers.Goals as goal

pub loop-x-init : goal.loop-x-init
loop-x-init c = first_start
