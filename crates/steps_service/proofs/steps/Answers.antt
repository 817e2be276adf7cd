-- `steps_service::steps` meets its contract: what it leaves is a law of `Records` at what the calls have said.
use mathlib.Core.Path.{refl}
use Rattle.std.proofs.lemmas.Result.{err_from_is_err_and}
use Rattle.listing.specs.Records.{first_records, filled}
use Rattle.steps_service.specs.Listing.{written_by}
use Rattle.steps_service.proofs.Records.{answers}
use Rattle.steps_service.proofs.steps.Goals as goal

pub returns-in_err-count : goal.returns-in_err-count
unfolding filled first_records written_by
returns-in_err-count c =
    let p = err_from_is_err_and c.from_residual.result c.from_residual.ensures.1 in
    rw (p.1, p.2) (answers _ c.list.new.row _ _ _ c.in_err-count.ensures refl)

pub fill-requires : goal.fill-requires
unfolding written_by
fill-requires c = (c.in_ok-count.ensures.fits, c.in_ok-count.ensures.inside)

pub returns : goal.returns
unfolding written_by
returns c = answers _ _ _ _ _ c.in_ok-count.ensures c.fill.ensures
