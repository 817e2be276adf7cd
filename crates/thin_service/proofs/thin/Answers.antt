-- `thin_service::thin` meets its contract: the answers are laws of `Thinning` at what the calls have said.
use mathlib.Core.Path.{refl}
use Rattle.std.proofs.lemmas.Result.{err_from_is_err_and}
use Rattle.stages.proofs.Stages.{refused_text_10, past_text_10, counts_bounded}
use Rattle.thin_service.proofs.Thinning.{thin_refused, thins}
use Rattle.thin_service.proofs.thin.Goals as goal

pub returns-in_err-read_as_far_as_10 : goal.returns-in_err-read_as_far_as_10
returns-in_err-read_as_far_as_10 c =
    let p = err_from_is_err_and c.from_residual.result c.from_residual.ensures.1 in
    rw (p.1, p.2) (thin_refused _ _ (refused_text_10 c.in_err-read_as_far_as_10.ensures refl))

pub remove_redundant-requires : goal.remove_redundant-requires
remove_redundant-requires c = counts_bounded (past_text_10 c.read_as_far_as_10.ensures c.in_ok-read_as_far_as_10.was)

pub returns : goal.returns
returns c = thins (past_text_10 c.read_as_far_as_10.ensures c.in_ok-read_as_far_as_10.was) _ c.remove_redundant.ensures
