-- `lines::mark_states` meets its contract: a loop over spaced figures, each of which is marked.
use Prim.Native.Nat.{ℕ, ◌-◌}
use mathlib.Core.List.{List}
use lib.ListN.{length}
use Rattle.model.specs.Reading.{many}
use Rattle.model.specs.Form.{spaced_figure}
use Rattle.lexer.proofs.Loops.{Items}
use Rattle.lines.specs.Marking.{Marking, marking, marked_all}
use Rattle.lines.proofs.marks.mark_states.Given as goal

-- the marking and the position after the figures
abbrev pub end : ℕ → ℕ → Marking → List ℕ × ℕ → Marking × ℕ
end n p m r = (marked_all n p m r.0, r.1)

abbrev pub invariant-loop-state : goal.invariant-loop-state
invariant-loop-state l =
    Items spaced_figure (end l.n l.p) l.s (end l.n l.p (marking l.initial.marks) (many spaced_figure l.s l.at)) (marking l.marks) l.next

abbrev pub decreases-loop-state : goal.decreases-loop-state
decreases-loop-state l = length l.s - l.next
