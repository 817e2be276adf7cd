-- `reader::step_at` meets its contract: what is read quickly is the line, by the laws of `StepSection`.
use Rattle.reader.proofs.step_lines.StepSection.{quick_limit, step_quick}
use Rattle.reader.proofs.step_lines.step_at.Goals as goal

pub returns-then-k-ge-MAX_TRANSITIONS : goal.returns-then-k-ge-MAX_TRANSITIONS
returns-then-k-ge-MAX_TRANSITIONS c = quick_limit c.requires.2 c.in-Some.ensures c.if-k-ge-MAX_TRANSITIONS.true

pub returns : goal.returns
returns c = step_quick c.requires.2 c.in-Some.ensures c.if-k-ge-MAX_TRANSITIONS.false
