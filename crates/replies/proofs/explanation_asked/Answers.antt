-- `replies::explanation_asked` meets its contract: its answers are laws of `Replying`.
use mathlib.Core.Path.{ap, ◌∙◌}
use borrow.Author.Rules.{rules}
use Rattle.std.specs.Prelude.{unwrap_or}
use Rattle.replies.proofs.Replying.{explains_nothing, explains}
use Rattle.replies.proofs.explanation_asked.Goals as goal

pub returns-then-is_empty : goal.returns-then-is_empty
returns-then-is_empty c = explains_nothing c.args.words.now (search rules)

pub returns : goal.returns
returns c = explains c.word_end-end.ensures (search rules) (c.unwrap_or.ensures ∙ ap (λ r. unwrap_or r 0) c.refusal_said.ensures)
