-- `irredundant::thin` meets its contract: from what the calls gave. The laws are in `Examined`.
use Rattle.std.proofs.lemmas.Result.{err_from_is_err_and}
use Rattle.irredundant.proofs.Examined.{thin_refused, thin_kept}
use Rattle.irredundant.proofs.thin.Goals as goal

pub returns-in_err-check_cover_in : goal.returns-in_err-check_cover_in
returns-in_err-check_cover_in c =
    let p = err_from_is_err_and c.from_residual.result c.from_residual.ensures.1 in
    rw (p.1, p.2) (thin_refused c.check_cover_in.ensures.cover_judged c.in_err-check_cover_in.was)

pub returns : goal.returns
returns c =
    thin_kept c.check_cover_in.ensures.cover_judged c.in_ok-check_cover_in.was c.check_cover_in.ensures.place_sets c.drop_redundant.ensures
