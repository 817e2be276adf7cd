-- Each branch is the word that the state stands in.
use lib.Dec.{lit<}
use borrow.Author.Rules.{rules}
use Rattle.state_set.proofs.Sets.{single_member}
use Rattle.state_set.proofs.single.Goals as goal

pub returns-then-word-eq0 : goal.returns-then-word-eq0
returns-then-word-eq0 c = single_member 0 _ (lit< tt) c.if-word-eq0.true

pub returns-then-word-eq1 : goal.returns-then-word-eq1
returns-then-word-eq1 c = single_member 1 _ (lit< tt) c.if-word-eq1.true

pub returns-then-word-eq2 : goal.returns-then-word-eq2
returns-then-word-eq2 c = single_member 2 _ (lit< tt) c.if-word-eq2.true

pub returns-else-word-eq2 : goal.returns-else-word-eq2
returns-else-word-eq2 c = single_member 3 _ (lit< tt) (search rules)
