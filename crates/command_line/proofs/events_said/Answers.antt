-- `command_line::events_said` meets its contract: each turn takes a word and leaves an event. The laws are in `Taking`.
use mathlib.Core.Path.{◌≡◌, refl}
use Rattle.std.proofs.Common.{rules, None}
use Rattle.command_line.proofs.Taking.{taken_start, taken_none, taken_more, taken_all}
use Rattle.command_line.proofs.events_said.Goals as goal

pub loop-at-init : goal.loop-at-init
loop-at-init c = taken_start

pub returns-in_err-event : goal.returns-in_err-event
returns-in_err-event c =
    let e : c.from_residual.result ≡ None = search rules in
    rw e (taken_none c.loop-at.invariant c.loop-at-test.true c.word_end-end.ensures _ c.event_said.ensures.result_value c.in_err-event.was)

pub loop-at-preserved : goal.loop-at-preserved
loop-at-preserved c =
    taken_more c.loop-at.invariant c.loop-at-test.true c.word_end-end.ensures _ c.event_said.ensures.result_value c.in_ok-event.was refl

pub returns : goal.returns
returns c = taken_all c.loop-at.invariant c.loop-at-test.false
