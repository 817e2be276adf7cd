-- `lanes_agree` meets its contract. The laws are in `Lanes`.
use Rattle.std.proofs.Common.{◌≡◌}
use Rattle.regions.specs.Columns.{lanes_agree}
use Rattle.regions.proofs.lanes.lanes_agree.Given as goal

abbrev pub invariant-loop-m : goal.invariant-loop-m
invariant-loop-m l = l.all ≡ lanes_agree l.columns l.from l.to l.from2 l.to2 l.m
