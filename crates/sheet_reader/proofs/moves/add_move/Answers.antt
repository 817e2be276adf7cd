-- One law of `Adding` for each way out.
use native.Mathlib.Omega.{arith}
use mathlib.Core.Path.{ap}
use Rattle.std.specs.Prelude.{is_ok}
use Rattle.std.proofs.lemmas.Result.{err_from_is_err_and}
use Rattle.sheet_reader.proofs.Adding.{number_most, adds_full, adds_bad, adds_known, adds_new}
use Rattle.sheet_reader.proofs.moves.add_move.Goals as goal

pub returns-then-e-ge-MAX_EVENTS : goal.returns-then-e-ge-MAX_EVENTS
returns-then-e-ge-MAX_EVENTS c = record { count_bound = c.requires; adds_move = adds_full _ _ _ _ _ c.find.ensures _ c.unwrap_or-e.ensures c.if-e-ge-MAX_EVENTS.true }

pub returns-in_err-store_move-clause-adds_move : goal.returns-in_err-store_move-clause-adds_move
returns-in_err-store_move-clause-adds_move c =
    let p = err_from_is_err_and c.from_residual.result c.from_residual.ensures.1 in
    rw (p.1) (adds_bad _ _ _ _ _ c.find.ensures _ c.unwrap_or-e.ensures c.if-e-ge-MAX_EVENTS.false c.store_move.ensures (ap is_ok c.in_err-store_move.was) _ _)

pub returns-then-e-names : goal.returns-then-e-names
returns-then-e-names c = record { count_bound = c.requires; adds_move = adds_known _ _ _ _ _ c.find.ensures _ c.unwrap_or-e.ensures c.if-e-ge-MAX_EVENTS.false c.store_move.ensures (ap is_ok c.in_ok-store_move.was) c.if-e-names.true }

pub returns : goal.returns
returns c = record { count_bound = rw c.add_hint.ensures (omega (arith, number_most c.find.result c.find.ensures.below, c.unwrap_or-e.ensures, c.if-e-ge-MAX_EVENTS.false, c.if-e-names.false)); adds_move = rw c.add_hint.ensures (adds_new _ _ _ _ _ c.find.ensures _ c.unwrap_or-e.ensures c.if-e-ge-MAX_EVENTS.false c.store_move.ensures (ap is_ok c.in_ok-store_move.was) c.if-e-names.false) }
