-- `replies::wrong_words::wrong_word` meets its contract: each turn passes a word that the service takes. The laws are in `Judging`.
use Prim.Native.Nat.{◌-◌}
use lib.ListN.{length}
use Rattle.replies.proofs.Judging.{Right}
use Rattle.replies.proofs.wrong_words.wrong_word.Given as goal

abbrev pub invariant-loop-at : goal.invariant-loop-at
invariant-loop-at l = Right l.asked l.words l.k l.at

abbrev pub decreases-loop-at : goal.decreases-loop-at
decreases-loop-at l = length l.words - l.at
