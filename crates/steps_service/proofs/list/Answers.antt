-- `steps_service::list` meets its contract: each answer is a law of `Listing` at what the calls have said.
use native.Mathlib.Omega.{arith}
use mathlib.Core.Path.{refl}
use Rattle.std.proofs.lemmas.Result.{err_from_is_err_and}
use Rattle.model.specs.Services.{as_far_as7}
use Rattle.stages.specs.Stages.{Held}
use Rattle.rows.proofs.Verdicts.{lets_pass}
use Rattle.steps_service.proofs.Listing.{lists_refusal, lists_too_few, lists_all}
use Rattle.steps_service.proofs.list.Goals.{In_ok-read_as_far_as_7}
use Rattle.steps_service.proofs.list.Goals as goal

-- the text is past 7
seven : (c : In_ok-read_as_far_as_7) → Held (as_far_as7 c.args.text.now) c.args.text.now c.read_as_far_as_7.new.plan
seven c = c.read_as_far_as_7.ensures.held (lets_pass c.in_ok-read_as_far_as_7.was)

pub returns-in_err-read_as_far_as_7 : goal.returns-in_err-read_as_far_as_7
returns-in_err-read_as_far_as_7 c =
    let p = err_from_is_err_and c.from_residual.result c.from_residual.ensures.1 in
    rw (p.1, p.2) (lists_refusal c.in_err-read_as_far_as_7.ensures.verdict refl)

pub returns-then-room-needed : goal.returns-then-room-needed
returns-then-room-needed c = lists_too_few (seven (goal.at.returns-then-room-needed c).In_ok-read_as_far_as_7) c.if-room-needed.true

pub list_transitions-requires : goal.list_transitions-requires
list_transitions-requires c =
    let held = seven (goal.at.list_transitions-requires c).In_ok-read_as_far_as_7 in
    let (source, event, target) = c.transitions.ensures in
    let most = held.bounds.transitions in
    let lengths = held.sized.checked in
    rw (source, event, target)
    (omega (arith, most, lengths.crossed.sources), omega (arith, most, lengths.events), omega (arith, most, lengths.crossed.targets), omega (arith, most))

pub returns : goal.returns
returns c =
    let h = seven (goal.at.returns c).In_ok-read_as_far_as_7 in
    lists_all h c.if-room-needed.false (omega (arith, h.bounds.transitions))
    (rw (c.transitions.ensures.0, c.transitions.ensures.1, c.transitions.ensures.2) at c.list_transitions.ensures)
