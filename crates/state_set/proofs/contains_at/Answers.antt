-- The code tests the digit that `member_at` names.
use mathlib.Core.Path.{sym}
use borrow.Author.Rules.{rules}
use Rattle.state_set.specs.Member.{bit}
use Rattle.state_set.proofs.Rows.{digit_at}
use Rattle.state_set.proofs.contains_at.Goals as goal

pub returns : goal.returns
unfolding bit
returns c = rw c.from.ensures (sym (digit_at _ _ _ (search rules)))
