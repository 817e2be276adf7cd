-- `BarRows::bar_places` meets its contract: the events passed have barred. The laws are in `Pairing`.
use Rattle.merging.specs.Bars.{seen_by}
use Rattle.merging.proofs.Pairing.{Passed}
use Rattle.merging.proofs.bar_rows.BarRows.bar_places.Given as goal

abbrev pub invariant-loop-e : goal.invariant-loop-e
invariant-loop-e l = Passed (seen_by l.self) l.self.m l.self.size l.self.events l.bars l.e
