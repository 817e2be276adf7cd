-- The loop keeps `Lining`. The laws are in `Sheeting`.
use Rattle.sheet_reader.specs.Lent.{lent}
use Rattle.sheet_reader.proofs.Sheeting.{Lining}
use Rattle.sheet_reader.proofs.read_sheet.Given as goal

abbrev pub invariant-loop-k : goal.invariant-loop-k
invariant-loop-k l = Lining l.s l.n l.sheet.names.count l.i l.k (lent l.sheet.names l.sheet.moves) l.sheet.starts
