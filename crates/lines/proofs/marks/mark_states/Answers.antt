-- `lines::marks::mark_states` meets its contract: a loop over spaced figures, each of which is marked.
use Prim.Native.Nat.{ℕ}
use native.Mathlib.Omega.{arith}
use mathlib.Core.Path.{ap}
use Rattle.lexer.proofs.Answers.{figure_missing, figure_got}
use Rattle.lexer.proofs.Loops.{items_more, items_end}
use Rattle.lexer.proofs.Moves.{moves_spaced_figure}
use Rattle.lines.specs.Marking.{Marking, marked_all}
use Rattle.lines.proofs.marks.mark_states.Goals as goal

pub returns : goal.returns
unfolding marked_all
returns c =
    let e = items_end c.loop-state.invariant (figure_missing _ c.read_spaced_figure.ensures c.in_default.is) in
    record { next_value = ap (λ (r : Marking × ℕ). r.1) e; row_after = ap (λ (r : Marking × ℕ). r.0) e }

pub loop-state-smaller : goal.loop-state-smaller
loop-state-smaller c = omega (arith, moves_spaced_figure.on _ _ _ _ (figure_got _ c.read_spaced_figure.ensures c.in-Some.is))

pub loop-state-preserved : goal.loop-state-preserved
unfolding marked_all
loop-state-preserved c =
    items_more moves_spaced_figure c.loop-state.invariant _ _ (figure_got _ c.read_spaced_figure.ensures c.in-Some.is) _
    (λ l k. rw c.mark.ensures)
