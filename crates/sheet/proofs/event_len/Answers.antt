-- `sheet::event_len` meets its contract: the moves on the machines passed are counted. The laws are in `Lengths`.
use mathlib.Core.Path.{sym, ◌∙◌}
use Rattle.sheet.proofs.Lengths.{counted_none, counted_add, counted_skip, counted_end}
use Rattle.sheet.proofs.event_len.Goals as goal
use Rattle.sheet.proofs.event_len.Goals.{then-has_move, else-has_move}

pub loop-m-init : goal.loop-m-init
loop-m-init c = counted_none

pub loop-m-preserved : goal.loop-m-preserved
loop-m-preserved c =
    let inv = c.loop-m.invariant in
    let l = c.loop-m-test.true in
    let on = sym c.has_move.ensures in
    let a = c.place_len.ensures in
    let b = c.place_len-in-loop-m.ensures in
    elim c.if-has_move.branch [
      | then-has_move w ↦ rw (w.count-is, w.figures-is) (counted_add inv l (on ∙ w.if-has_move.true) a.0 b.0 a.1 b.1)
      | else-has_move w ↦ rw (w.count-is, w.figures-is) (counted_skip inv l (on ∙ w.if-has_move.false))
    ]

pub returns : goal.returns
returns c =
    let p = c.requires in
    counted_end c.loop-m.invariant c.loop-m-test.false p.2 p.0 c.from.ensures c.from-2.ensures
