-- `lines::marks::mark_places` meets its contract: a loop over places, each of which is marked by its number.
use Prim.Native.Nat.{ℕ, ◌+◌, ◌-◌, ◌≤◌}
use mathlib.Core.List.{List}
use lib.ListN.{length}
use Rattle.model.specs.Machine.{Place}
use Rattle.model.specs.Reading.{many}
use Rattle.model.specs.Form.{place}
use Rattle.lexer.proofs.Loops.{Items}
use Rattle.lines.specs.Marking.{Marking, marking, marked_places}
use Rattle.lines.proofs.marks.mark_places.Given as goal

-- the marking, the number of places and the position after them
abbrev pub end : ℕ → Marking × ℕ → List Place × ℕ → Marking × ℕ × ℕ
end n b r = (marked_places n b.1 b.0 r.0, b.1 + length r.0, r.1)

abbrev pub invariant-loop-opened : goal.invariant-loop-opened
invariant-loop-opened l =
    Items place (end l.n) l.s (end l.n (marking l.initial.marks, 0) (many place l.s l.at)) (marking l.marks, l.count) l.next × (l.count ≤ l.next)

abbrev pub decreases-loop-opened : goal.decreases-loop-opened
decreases-loop-opened l = length l.s - l.next
