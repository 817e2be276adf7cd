-- `split::put_word` meets its contract: a word, and the byte behind it.
use Rattle.writers.proofs.Writing.{writes_append}
use Rattle.split.proofs.put_word.Goals as goal

pub returns-clause-writes : goal.returns-clause-writes
returns-clause-writes c = writes_append c.write_bytes-end.ensures c.write_bytes.ensures
