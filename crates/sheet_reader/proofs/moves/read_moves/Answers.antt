-- The loop keeps `Moving`.
use native.Mathlib.Omega.{arith}
use mathlib.Core.Path.{ap, ◌∙◌}
use Rattle.std.specs.Prelude.{Ok}
use Rattle.std.proofs.lemmas.Result.{err_from_is_err_and}
use Rattle.sheet_reader.proofs.Moving.{moving_start, moving_end, moving_bad, move_on_lem, moving_more}
use Rattle.sheet_reader.proofs.moves.read_moves.Goals as goal

pub loop-next-init : goal.loop-next-init
loop-next-init c = moving_start c.requires.0 c.requires.1

pub loop-next-smaller : goal.loop-next-smaller
loop-next-smaller c = omega (arith, move_on_lem c.loop-next.invariant c.next_move.ensures (c.in_ok-next.was ∙ ap Ok c.in-Some.is))

pub loop-next-preserved : goal.loop-next-preserved
loop-next-preserved c = moving_more c.loop-next.invariant c.next_move.ensures (c.in_ok-next.was ∙ ap Ok c.in-Some.is)

pub returns-in_err-next : goal.returns-in_err-next
returns-in_err-next c =
    let (why, e, same) = err_from_is_err_and c.from_residual.result c.from_residual.ensures.1 in
    rw (e, same) (moving_bad c.loop-next.invariant c.next_move.ensures c.in_err-next.was)

pub returns : goal.returns
returns c = moving_end c.loop-next.invariant c.next_move.ensures (c.in_ok-next.was ∙ ap Ok c.in_default.is)
