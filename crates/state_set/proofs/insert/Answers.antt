-- `insert` sets the digit of the state.
use borrow.Author.Rules.{rules}
use Rattle.state_set.proofs.Rows.{inserted}
use Rattle.state_set.proofs.insert.Goals as goal

pub returns : goal.returns
returns c = rw c.from.ensures (inserted _ _ _ (search rules) c.requires)
