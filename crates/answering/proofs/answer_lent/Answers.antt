-- `answering::answer_lent` meets its contract: what is printed with the size that the words say, or nothing.
use mathlib.Core.Path.{◌≡◌, ◌∙◌}
use Rattle.std.proofs.Common.{rules, None}
use Rattle.printing.specs.Shown.{lent_line}
use Rattle.command_line.specs.WordRow.{words_in}
use Rattle.answering.proofs.Saying.{shows_none, shows_some, printed_some, says_none, says_some, no_size}
use Rattle.answering.proofs.answer_lent.Goals as goal

pub returns-in_err-lent : goal.returns-in_err-lent
returns-in_err-lent c =
    let e : c.from_residual.result ≡ None = search rules in
    rw e (shows_none (no_size (words_in c.args.words.now) c.args.text.now c.requires (says_none c.in_err-lent.was c.size_said.ensures)))

pub print_lent-requires : goal.print_lent-requires
print_lent-requires c = c.leave-answer.ensures.fits

pub returns : goal.returns
returns c =
    shows_some
    (printed_some (λ n. lent_line n _ _) (says_some c.in_ok-lent.was c.size_said.ensures) ∙ c.leave-answer.ensures.prints (words_in c.args.words.now))
    c.print_lent.ensures
