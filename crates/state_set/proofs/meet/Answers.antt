-- `meet` works word by word.
use Rattle.state_set.proofs.Sets.{meet_member}
use Rattle.state_set.proofs.meet.Goals as goal

pub returns : goal.returns
returns c i = meet_member _ _ i
