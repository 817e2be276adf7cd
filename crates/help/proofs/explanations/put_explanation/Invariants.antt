-- `help::explanations::put_explanation` ends: each turn leaves less of the text.
use Rattle.std.proofs.Common.{length}
use Rattle.help.proofs.explanations.put_explanation.Given as goal

abbrev pub decreases-loop-at : goal.decreases-loop-at
decreases-loop-at g l = length l.rest
