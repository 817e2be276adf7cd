-- `reader::read_words` meets its contract. Each way out is a law of `StepSection`.
use Rattle.std.proofs.Common.{inl, inr}
use Rattle.lines.proofs.Found.{step_got, step_missing}
use Rattle.reader.proofs.step_lines.StepSection.{step_limit, step_unknown, step_stranger, step_declared}
use Rattle.reader.proofs.step_lines.read_words.Goals.{then-n-step-via-then-n-step, then-n-step-via-else-n-step+then-n-step-2}
use Rattle.reader.proofs.step_lines.read_words.Goals as goal

pub returns-in_default : goal.returns-in_default
returns-in_default c = step_missing _ _ c.read_step.ensures c.in_default.is

pub returns-then-k-ge-MAX_TRANSITIONS : goal.returns-then-k-ge-MAX_TRANSITIONS
returns-then-k-ge-MAX_TRANSITIONS c = step_limit (step_got _ _ c.read_step.ensures c.in-Some.is).read c.if-k-ge-MAX_TRANSITIONS.true

pub returns-in_default-find : goal.returns-in_default-find
returns-in_default-find c = step_unknown (step_got _ _ c.read_step.ensures c.in-Some.is) c.if-k-ge-MAX_TRANSITIONS.false c.in_default-find.ensures

pub returns-then-n-step : goal.returns-then-n-step
returns-then-n-step c =
    step_stranger (step_got _ _ c.read_step.ensures c.in-Some.is) c.if-k-ge-MAX_TRANSITIONS.false (elim c.then-n-step.branch [
      | then-n-step-via-then-n-step w ↦ inl w.if-n-step.true
      | then-n-step-via-else-n-step+then-n-step-2 w ↦ inr w.if-n-step-2.true
    ])

pub returns : goal.returns
returns c =
    step_declared (step_got _ _ c.read_step.ensures c.in-Some.is) c.if-k-ge-MAX_TRANSITIONS.false c.in-Some-find.ensures c.if-n-step.false
    c.if-n-step-2.false
