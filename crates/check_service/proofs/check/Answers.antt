-- `check_service::check` meets its contract: each answer is a law of `Checking` at what the calls have said.
use mathlib.Core.Path.{refl}
use Rattle.std.proofs.lemmas.Result.{err_from_is_err_and}
use Rattle.sheet.proofs.Told.{sheet_bounds}
use Rattle.stages.proofs.Stages.{refused_text, past_text}
use Rattle.check_service.proofs.Checking.{check_refused, check_passed}
use Rattle.check_service.proofs.check.Goals as goal

pub returns-in_err-read_as_far_as_12 : goal.returns-in_err-read_as_far_as_12
returns-in_err-read_as_far_as_12 c =
    let p = err_from_is_err_and c.from_residual.result c.from_residual.ensures.1 in
    let all = check_refused _ _ _ (refused_text c.in_err-read_as_far_as_12.ensures refl) in
    record { result_value = rw (p.1, p.2) all.0; out_after = all.1 }

pub hand_over-requires : goal.hand_over-requires
hand_over-requires c =
    let j = past_text c.read_as_far_as_12.ensures c.in_ok-read_as_far_as_12.was in
    let z = j.past.held.sized in
    (sheet_bounds _ _ _ _ _ _ _ _ _ j.past.held.bounds z.name_lengths z.place_counts z.checked.crossed.places, z.name_places, j.past.cover.moves.rows, j.past.held.names)

pub returns : goal.returns
returns c =
    let all = check_passed (past_text c.read_as_far_as_12.ensures c.in_ok-read_as_far_as_12.was) _ _ _ (c.hand_over.ensures _ _ _ _) in
    record { result_value = all.0; out_after = all.1 }
