-- `join_word` changes the word, or has nothing to add.
use Rattle.state_set.proofs.Rows.{word_joined, word_empty}
use Rattle.state_set.proofs.join_word.Goals as goal

pub returns-then-word-ne0 : goal.returns-then-word-ne0
returns-then-word-ne0 c = word_joined _ _ _ c.requires

pub returns-else-word-ne0 : goal.returns-else-word-ne0
returns-else-word-ne0 c = word_empty _ _ _ c.if-word-ne0.false
