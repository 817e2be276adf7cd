-- `join` works word by word.
use Rattle.state_set.proofs.Sets.{join_member}
use Rattle.state_set.proofs.join.Goals as goal

pub returns : goal.returns
returns c i = join_member _ _ i
