-- `join_at` joins word by word.
use Rattle.state_set.proofs.Rows.{joined}
use Rattle.state_set.proofs.join_at.Goals as goal

pub returns : goal.returns
returns c =
    joined c.join_word.ensures c.join_word-2.ensures c.join_word-3.ensures c.join_word-4.ensures
