-- `printing::print_thin` meets its contract: the refusal's line, or the machines that are kept. The laws are in `Thins`.
use native.Mathlib.Omega.{arith}
use borrow.Author.Rules.{rules}
use mathlib.Core.Path.{sym}
use Rattle.writers.proofs.Writing.{writes_append}
use Rattle.writers.proofs.Refusals.{numeral_most}
use Rattle.printing.proofs.Showing.{shows_same}
use Rattle.printing.proofs.Lines.{shows_as}
use Rattle.printing.proofs.Thins.{set_line, thin_refused, thin_kept}
use Rattle.printing.proofs.print_thin.Goals as goal

pub returns-in-Err : goal.returns-in-Err
returns-in-Err c =
    shows_same (sym (thin_refused _ _ c.in-Err.ensures)) c.print_refusal.ensures

pub returns-in-Ok : goal.returns-in-Ok
unfolding set_line
returns-in-Ok c =
    shows_as (thin_kept _ _ _ c.in-Ok.ensures)
    (writes_append c.write_bytes-a.ensures
    (writes_append c.write_numeral-b.ensures
    (writes_append c.write_bytes-c.ensures (writes_append c.write_kept-d.ensures.writes c.write_bytes.ensures))))
    (omega (
      arith,
      c.write_bytes-a.ensures.after,
      c.write_numeral-b.ensures.after,
      c.write_bytes-c.ensures.after,
      c.write_kept-d.ensures.upper_bound,
      c.write_bytes.ensures.after,
      numeral_most c.in-Ok.field-0.size,
    ))
    (search rules)
