-- `load` reads the four words of the set.
use borrow.Author.Rules.{rules}
use Rattle.state_set.specs.Rows.{set_at}
use Rattle.state_set.proofs.load.Goals as goal

pub returns : goal.returns
unfolding set_at
returns c = search rules
