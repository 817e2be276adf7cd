-- `quick_words::is_byte` meets its contract: the byte is compared.
use Rattle.quick_words.proofs.Standing.{equal}
use Rattle.quick_words.proofs.is_byte.Goals as goal

pub returns : goal.returns
returns c = equal c.args.s.now c.args.at c.args.b c.requires
