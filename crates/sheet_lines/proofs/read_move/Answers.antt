-- `sheet_lines::read_move` meets its contract: one equation for each word that was read, where the search would go far.
use Rattle.lexer.proofs.Answers.{literal_missing, literal_got, figure_got, name_got}
use Rattle.sheet_lines.specs.Moves.{as_move, move_line}
use Rattle.sheet_lines.proofs.Forms.{move_words}
use Rattle.sheet_lines.proofs.read_move.Goals as goal

pub returns-in_err-next : goal.returns-in_err-next
unfolding as_move move_line
returns-in_err-next c =
    rw c.from_residual-in_err-next.ensures
    (simp (
      move_words,
      literal_got _ c.read_literal.ensures c.in_ok-a.was,
      (name_got _ c.read_name.ensures c.in_ok-event.was).read,
      figure_got _ c.read_spaced_figure.ensures c.in_ok-pre.was,
      figure_got _ c.read_spaced_figure-2.ensures c.in_ok-post.was,
      literal_missing _ c.read_literal-2.ensures c.in_err-next.was,
    ))

pub returns : goal.returns
unfolding as_move move_line
returns c =
    let e = name_got _ c.read_name.ensures c.in_ok-event.was in
    simp (
      move_words,
      literal_got _ c.read_literal.ensures c.in_ok-a.was,
      e.read,
      figure_got _ c.read_spaced_figure.ensures c.in_ok-pre.was,
      figure_got _ c.read_spaced_figure-2.ensures c.in_ok-post.was,
      literal_got _ c.read_literal-2.ensures c.in_ok-next.was,
      e.told,
    )
