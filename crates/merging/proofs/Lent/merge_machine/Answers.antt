-- `Lent::merge_machine` meets its contract: the new numbers begin with 0. The law is in `Numbering`.
use Rattle.merging.proofs.Numbering.{zeros_small}
use Rattle.merging.proofs.Lent.merge_machine.Goals as goal

pub new_numbers-groups-requires-clause-small : goal.new_numbers-groups-requires-clause-small
new_numbers-groups-requires-clause-small c = zeros_small
