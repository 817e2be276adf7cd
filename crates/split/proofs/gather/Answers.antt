-- `split::gather` meets its contract: the word that was taken has no room, or stands behind the others.
use Rattle.std.proofs.Common.{rules, take}
use Rattle.split.proofs.Gathering.{gathering_more, gathering_stop}
use Rattle.split.proofs.gather.Goals as goal

pub returns-then-row-n : goal.returns-then-row-n
returns-then-row-n g c =
    gathering_stop c.loop-i.invariant.1 (take c.take_word-len.result c.take_word-len.new.word) c.loop-i-test.true (search rules)

pub loop-i-preserved : goal.loop-i-preserved
loop-i-preserved g c = (
  search rules,
  gathering_more c.loop-i.invariant.1 (take c.take_word-len.result c.take_word-len.new.word) c.loop-i-test.true (search rules) c.put_word-n.ensures.writes,
)
