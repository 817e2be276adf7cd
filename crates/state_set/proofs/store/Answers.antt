-- `store` writes the four words of the set.
use Rattle.state_set.proofs.Rows.{stored}
use Rattle.state_set.proofs.store.Goals as goal

pub returns : goal.returns
returns c = stored _ _ _ c.requires
