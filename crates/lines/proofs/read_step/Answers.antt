-- `lines::read_step` meets its contract: one equation for each word that was read, where the search would go far.
use Rattle.lexer.proofs.Answers.{literal_missing, literal_got, figure_got, name_got}
use Rattle.lines.specs.Lines.{as_step}
use Rattle.lines.proofs.Steps.{step_words}
use Rattle.lines.proofs.read_step.Goals as goal

pub returns-in_err-next : goal.returns-in_err-next
unfolding as_step
returns-in_err-next c =
    rw c.from_residual-in_err-next.ensures
    (simp (
      step_words,
      literal_got _ c.read_literal.ensures c.in_ok-a.was,
      figure_got _ c.read_figure.ensures c.in_ok-source.was,
      (name_got _ c.read_spaced_name.ensures c.in_ok-event.was).read,
      figure_got _ c.read_spaced_figure.ensures c.in_ok-target.was,
      literal_missing _ c.read_literal-2.ensures c.in_err-next.was,
    ))

pub returns : goal.returns
unfolding as_step
returns c =
    let e = name_got _ c.read_spaced_name.ensures c.in_ok-event.was in
    simp (
      step_words,
      literal_got _ c.read_literal.ensures c.in_ok-a.was,
      figure_got _ c.read_figure.ensures c.in_ok-source.was,
      e.read,
      figure_got _ c.read_spaced_figure.ensures c.in_ok-target.was,
      literal_got _ c.read_literal-2.ensures c.in_ok-next.was,
      e.told,
    )
