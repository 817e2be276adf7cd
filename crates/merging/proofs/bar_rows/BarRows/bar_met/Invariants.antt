-- `BarRows::bar_met` meets its contract: the places passed are barred if they have one of the states. The laws are in `Pairing`.
use Rattle.state_set.specs.Member.{member}
use Rattle.merging.proofs.Pairing.{Meeting}
use Rattle.merging.proofs.bar_rows.BarRows.bar_met.Given as goal

abbrev pub invariant-loop-q : goal.invariant-loop-q
invariant-loop-q l = Meeting l.self.sets.now l.self.m l.self.size (member l.states) l.p l.initial.bars l.bars l.q
