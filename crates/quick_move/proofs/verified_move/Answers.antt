-- `quick_move::verified_move` meets its contract: the tests by the law of `Moves`.
use Rattle.std.proofs.Common.{◌<◌, ◌≤◌, sym, arith}
use Rattle.names.specs.Held.{Same}
use Rattle.quick_move.proofs.Moves.{verified}
use Rattle.quick_move.proofs.verified_move.Goals.{then-not-is_known+else-not-is_known-2, else-not-is_known}
use Rattle.quick_move.proofs.verified_move.Goals as goal

pub returns : goal.returns
returns c =
    let a = c.args in
    let r = a.names.now in
    let name = c.pack_name-name.result in
    let size : name.«len» ≤ 16 = omega (arith, c.guess_size.ensures, c.pack_name-name.ensures.len_value) in
    let k = c.if-not-is_known.event in
    let known : (k < r.count) × Same r.«len» r.high r.low name.«len» name.high name.low k =
    elim c.if-not-is_known.branch [
      | then-not-is_known+else-not-is_known-2 w ↦ rw w.event-is (w.is_known-then-not-is_known.ensures w.if-not-is_known-2.false)
      | else-not-is_known w ↦ rw w.event-is (c.is_known.ensures w.if-not-is_known.false)
    ] in
    verified a.s.now r.«len» r.high r.low a.at r.count _ _ _ _ _ c.requires size
    (rw (sym c.pack_name-name.ensures.len_value) at c.pack_name-name.ensures.packs) c.short_figure_at-a.ensures c.short_figure_at-b.ensures _
    c.is_framed.ensures c.if-not-formed.false k known
