-- `without` works word by word; every word of `b` fits.
use borrow.Author.Rules.{rules}
use Rattle.state_set.proofs.Sets.{without_member}
use Rattle.state_set.proofs.without.Goals as goal

pub returns : goal.returns
returns c i = without_member _ _ i (search rules)
