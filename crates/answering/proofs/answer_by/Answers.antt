-- `answering::answer_by` meets its contract: each service has its own answer.
use mathlib.Core.Path.{◌≡◌, ◌∙◌}
use Rattle.std.proofs.Common.{rules, None}
use Rattle.model.specs.Printed.{printed_steps}
use Rattle.command_line.specs.WordRow.{words_in}
use Rattle.command_line.specs.Program.{answer_by}
use Rattle.answering.proofs.Saying.{shows_none, shows_some, shows_answer, printed_none, printed_some, says_none, says_some, asked_as, thin_alone, thin_more, names_listed, no_service}
use Rattle.answering.proofs.answer_by.Goals as goal

pub returns-in_err-lent-in-Steps : goal.returns-in_err-lent-in-Steps
unfolding answer_by
returns-in_err-lent-in-Steps c =
    let e : c.from_residual.result ≡ None = search rules in
    rw e (shows_none (printed_none (printed_steps c.args.text.now) (says_none c.in_err-lent-in-Steps.was c.size_said.ensures) ∙ asked_as _ _ c.in-Steps.is))

pub returns-in_ok-lent-in-Steps : goal.returns-in_ok-lent-in-Steps
unfolding answer_by
returns-in_ok-lent-in-Steps c =
    shows_some (printed_some (printed_steps c.args.text.now) (says_some c.in_ok-lent-in-Steps.was c.size_said.ensures) ∙ asked_as _ _ c.in-Steps.is) c.print_steps.ensures

pub returns-in-Name : goal.returns-in-Name
returns-in-Name c = shows_answer (asked_as _ _ c.in-Name.is) c.answer_name.ensures

pub returns-in-Run : goal.returns-in-Run
returns-in-Run c = shows_answer (asked_as _ _ c.in-Run.is) c.answer_run.ensures

pub returns-then-is_empty : goal.returns-then-is_empty
returns-then-is_empty c = shows_some (thin_alone c.args.words.now c.args.text.now (search rules) ∙ asked_as _ _ c.in-Thin.is) c.print_thin.ensures

pub returns-else-is_empty : goal.returns-else-is_empty
returns-else-is_empty c = shows_none (thin_more c.args.words.now c.args.text.now (search rules) ∙ asked_as _ _ c.in-Thin.is)

pub returns-in-Board : goal.returns-in-Board
returns-in-Board c = shows_some (names_listed c.args.words.now _ c.names_said.ensures ∙ asked_as _ _ c.in-Board.is) c.print_board.ensures

pub returns-in-Help : goal.returns-in-Help
returns-in-Help c = shows_none (no_service (words_in c.args.words.now) c.args.text.now c.in-Help.is)
