-- The laws are in `Moving`.
use mathlib.Core.Path.{ap}
use Rattle.std.specs.Prelude.{is_ok}
use Rattle.std.proofs.lemmas.Result.{err_from_is_err_and}
use Rattle.sheet_reader.proofs.Moving.{quick_bad, quick_stored}
use Rattle.sheet_reader.proofs.moves.next_move.Goals as goal

pub returns-in_err-store_move : goal.returns-in_err-store_move
returns-in_err-store_move c =
    let p = err_from_is_err_and c.from_residual.result c.from_residual.ensures.1 in
    rw (p.1) (quick_bad c.in-Some.ensures c.requires c.store_move.ensures (ap is_ok c.in_err-store_move.was) _)

pub returns : goal.returns
returns c = quick_stored c.in-Some.ensures c.requires c.store_move.ensures (ap is_ok c.in_ok-store_move.was)
