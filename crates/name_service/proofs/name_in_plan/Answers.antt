-- `name_service::name_in_plan` meets its contract: each way out is a law of `Parts` at what the checks as far as 7 have said.
use native.Mathlib.Omega.{arith}
use Rattle.std.proofs.lemmas.Result.{err_from_is_err_and}
use Rattle.model.specs.Services.{as_far_as7}
use Rattle.rows.proofs.Verdicts.{lets_pass}
use Rattle.stages.specs.Stages.{Held}
use Rattle.name_service.proofs.Parts.{refused_text, unknown, inside_text, names_it}
use Rattle.name_service.proofs.name_in_plan.Goals.{In_ok-read}
use Rattle.name_service.proofs.name_in_plan.Goals as goal

-- the text is past 7
seven : (c : In_ok-read) → Held (as_far_as7 c.args.text.now) c.args.text.now c.args.plan.now
seven c = c.requires.held (lets_pass c.in_ok-read.was)

pub returns-in_err-read : goal.returns-in_err-read
returns-in_err-read c =
    let p = err_from_is_err_and c.from_residual.result c.from_residual.ensures.1 in
    rw (p.1, p.2) (refused_text _ _ (rw c.in_err-read.was at c.requires.verdict))

pub returns-then-plan-event : goal.returns-then-plan-event
returns-then-plan-event c = unknown (seven (goal.at.returns-then-plan-event c).In_ok-read) _ c.if-plan-event.true

pub offset_bounds-plan-event : goal.offset_bounds-plan-event
offset_bounds-plan-event c = let h = (seven (goal.at.offset_bounds-plan-event c).In_ok-read).bounds.events in omega (arith, h, c.if-plan-event.false)

pub bounds-plan-event : goal.bounds-plan-event
bounds-plan-event c = let h = (seven (goal.at.bounds-plan-event c).In_ok-read).bounds.events in omega (arith, h, c.if-plan-event.false)

pub offset_bounds-plan-event-2 : goal.offset_bounds-plan-event-2
offset_bounds-plan-event-2 c = let h = (seven (goal.at.offset_bounds-plan-event-2 c).In_ok-read).bounds.events in omega (arith, h, c.if-plan-event.false)

pub bounds-plan-event-2 : goal.bounds-plan-event-2
bounds-plan-event-2 c = let h = (seven (goal.at.bounds-plan-event-2 c).In_ok-read).bounds.events in omega (arith, h, c.if-plan-event.false)

pub overflow_add-end : goal.overflow_add-end
overflow_add-end c = let h = inside_text (seven (goal.at.overflow_add-end c).In_ok-read) _ c.if-plan-event.false in omega (arith, h)

pub returns : goal.returns
returns c = names_it (seven (goal.at.returns c).In_ok-read) _ c.if-plan-event.false
