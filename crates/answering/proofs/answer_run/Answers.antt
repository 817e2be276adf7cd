-- `answering::answer_run` meets its contract: what is printed of the events that the words say, or nothing.
use mathlib.Core.Path.{◌≡◌, ◌∙◌}
use Rattle.std.proofs.Common.{rules, None}
use Rattle.model.specs.Printed.{printed_run}
use Rattle.command_line.specs.WordRow.{words_in}
use Rattle.command_line.specs.Program.{answer_by}
use Rattle.answering.proofs.Saying.{shows_none, shows_some, printed_none, printed_some, lists_none, lists_some}
use Rattle.answering.proofs.Knowing.{rows_12, events_12}
use Rattle.answering.proofs.answer_run.Goals as goal

pub events_said-requires : goal.events_said-requires
events_said-requires c = rows_12 _ _ _ c.read_as_far_as_12-read.ensures c.known_names.ensures

pub returns-in_err-count : goal.returns-in_err-count
unfolding answer_by
returns-in_err-count c =
    let e : c.from_residual.result ≡ None = search rules in
    let same = events_12 _ _ _ c.read_as_far_as_12-read.ensures c.known_names.ensures (words_in c.args.words.now) in
    rw e (shows_none (printed_none (printed_run _) (lists_none c.in_err-count.was c.events_said.ensures) ∙ same))

pub print_run-requires : goal.print_run-requires
print_run-requires c = (_, c.read_as_far_as_12-read.ensures)

pub returns : goal.returns
unfolding answer_by
returns c =
    let same = events_12 _ _ _ c.read_as_far_as_12-read.ensures c.known_names.ensures (words_in c.args.words.now) in
    shows_some (printed_some (printed_run _) (lists_some c.in_ok-count.was c.events_said.ensures) ∙ same) c.print_run.ensures
