-- `sheet::write_sheet` meets its contract: the first line, then a line for each machine. The laws are in `Lining`.
use Rattle.sheet.specs.Rows.{sheet_rows}
use Rattle.sheet.proofs.Lining.{Lined}
use Rattle.sheet.proofs.write_sheet.Given as goal

abbrev pub invariant-loop-m : goal.invariant-loop-m
invariant-loop-m l =
    Lined l.text (sheet_rows l.plan.counts l.plan.name_at l.plan.name_len l.plan.sizes l.plan.place) l.moves.pre l.moves.post l.initial.i l.size l.initial.out l.out l.i l.m
