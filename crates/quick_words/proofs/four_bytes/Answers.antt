-- `quick_words::four_bytes` meets its contract: the law of `Packing` on four bytes.
use Rattle.quick_words.proofs.Packing.{four}
use Rattle.quick_words.proofs.four_bytes.Goals as goal

pub returns : goal.returns
returns c = four c.args.s.now c.args.at _ c.requires c.from_be_bytes.ensures
