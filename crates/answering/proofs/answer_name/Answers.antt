-- `answering::answer_name` meets its contract: what is printed of the event that one word says, or nothing.
use mathlib.Core.Path.{◌≡◌, ◌∙◌}
use Rattle.std.proofs.Common.{rules, None}
use Rattle.model.specs.Printed.{printed_name}
use Rattle.command_line.specs.Program.{answer_by}
use Rattle.answering.proofs.Saying.{shows_none, shows_some, printed_none, printed_some, says_none, says_some}
use Rattle.answering.proofs.Knowing.{rows_7, names_7, one_event}
use Rattle.answering.proofs.answer_name.Goals as goal

pub one_event_said-requires : goal.one_event_said-requires
one_event_said-requires c = rows_7 _ _ _ c.read_as_far_as_7-read.ensures c.known_names.ensures

pub returns-in_err-event : goal.returns-in_err-event
unfolding answer_by
returns-in_err-event c =
    let e : c.from_residual.result ≡ None = search rules in
    let said = c.one_event_said.ensures ∙ one_event c.args.words.now (names_7 _ _ _ c.read_as_far_as_7-read.ensures c.known_names.ensures) in
    rw e (shows_none (printed_none (printed_name _) (says_none c.in_err-event.was said)))

pub print_name-requires : goal.print_name-requires
print_name-requires c = c.read_as_far_as_7-read.ensures

pub returns : goal.returns
unfolding answer_by
returns c =
    let said = c.one_event_said.ensures ∙ one_event c.args.words.now (names_7 _ _ _ c.read_as_far_as_7-read.ensures c.known_names.ensures) in
    shows_some (printed_some (printed_name _) (says_some c.in_ok-event.was said)) c.print_name.ensures
