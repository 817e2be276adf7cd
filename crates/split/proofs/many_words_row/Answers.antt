-- `split::many_words_row` meets its contract.
use Rattle.split.proofs.Lengths.{cleared}
use Rattle.split.proofs.many_words_row.Goals as goal

pub returns : goal.returns
returns c = cleared 1441792 0
