-- `reader::read_first_lines` meets its contract: the promise of the states line, then that of the events line.
use Rattle.std.proofs.Common.{refl}
use Rattle.std.proofs.lemmas.Result.{err_from_is_err_and}
use Rattle.reader.proofs.Phases.{first_found}
use Rattle.reader.proofs.first_lines.read_first_lines.Goals as goal

pub returns-in_err-first : goal.returns-in_err-first
returns-in_err-first c =
    let p = err_from_is_err_and c.from_residual.result c.from_residual.ensures.1 in
    rw (p.1, p.2) (record { first_read = c.in_err-first.ensures; others = refl; lengths = tt })

pub returns-in_err-next : goal.returns-in_err-next
returns-in_err-next c =
    let p = err_from_is_err_and c.from_residual-in_err-next.result c.from_residual-in_err-next.ensures.1 in
    rw (p.1, p.2) (record { first_read = c.in_err-next.ensures.reads_events _ _ _ c.in_ok-first.ensures.rest; others = refl; lengths = tt })

pub returns : goal.returns
returns c =
    let f = c.in_ok-first.ensures in
    rw c.fill_hints.ensures (record { first_read = first_found f (c.in_ok-next.ensures.reads_events _ _ _ f.rest); others = refl; lengths = refl })
