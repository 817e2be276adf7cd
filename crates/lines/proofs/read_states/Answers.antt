-- `lines::read_states` meets its contract: one equation for each word that was read.
use Rattle.model.specs.Form.{states_line}
use Rattle.lexer.proofs.Answers.{literal_missing, literal_got, figure_got}
use Rattle.lines.specs.Lines.{as_states}
use Rattle.lines.proofs.Found.{start_got}
use Rattle.lines.proofs.read_states.Goals as goal

pub returns-in_err-next : goal.returns-in_err-next
unfolding states_line as_states
returns-in_err-next c =
    rw c.from_residual-in_err-next.ensures
    (simp (
      literal_got _ c.read_literal.ensures c.in_ok-a.was,
      figure_got _ c.read_figure.ensures c.in_ok-count.was,
      (start_got c.in_ok-count.count.next _ c.read_start-start.ensures).read,
      literal_missing _ c.read_literal-2.ensures c.in_err-next.was,
    ))

pub returns : goal.returns
unfolding states_line as_states
returns c =
    let g = start_got c.in_ok-count.count.next _ c.read_start-start.ensures in
    simp (
      literal_got _ c.read_literal.ensures c.in_ok-a.was,
      figure_got _ c.read_figure.ensures c.in_ok-count.was,
      g.read,
      literal_got _ c.read_literal-2.ensures c.in_ok-next.was,
      g.start,
    )
