-- `split::respond_to_many`: the words that were gathered are a part of their row.
use Rattle.split.proofs.Gathering.{gathered_ended}
use Rattle.split.proofs.respond_to_many.Goals as goal

pub respond-requires : goal.respond-requires
respond-requires g c = gathered_ended c.gather.ensures c.in-Some.is
