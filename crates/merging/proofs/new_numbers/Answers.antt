-- `merging::new_numbers` meets its contract: the bars begin with none, and the numbers go by them.
use Rattle.merging.proofs.Pairing.{bars_start}
use Rattle.merging.proofs.new_numbers.Goals as goal

pub bar_places-requires-clause-empty : goal.bar_places-requires-clause-empty
bar_places-requires-clause-empty c = bars_start
