-- `merging::merge_with` meets its contract: refused by 11 or 12, or by what the pass says of the rows. The laws are in `Judging`.
use Rattle.std.proofs.lemmas.Result.{err_from_is_err_and}
use Rattle.merging.proofs.Judging.{sheet_rows_lem, merge_refused, merge_passed}
use Rattle.merging.proofs.merge_with.Goals as goal

pub returns-in_err-check_cover_in-clause-merges : goal.returns-in_err-check_cover_in-clause-merges
returns-in_err-check_cover_in-clause-merges c =
    let p = err_from_is_err_and c.from_residual.result c.from_residual.ensures.1 in
    rw (p.1, p.2) (merge_refused c.check_cover_in.ensures.cover_judged c.in_err-check_cover_in.was (sheet_rows_lem c.requires.counts_bounded.1))

pub returns-clause-merges : goal.returns-clause-merges
returns-clause-merges c =
    merge_passed c.check_cover_in.ensures.cover_judged c.in_ok-check_cover_in.was c.check_cover_in.ensures.place_sets c.meet_later.ensures c.fill.ensures c.merge_machines.ensures.merged
