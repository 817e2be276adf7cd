-- `transpose` meets its contract. The laws are in `Columns`.
use Rattle.regions.proofs.lanes.Columns.{Transposing}
use Rattle.regions.proofs.lanes.transpose.Given as goal

abbrev pub invariant-loop-m : goal.invariant-loop-m
invariant-loop-m l = Transposing l.plan.place l.plan.counts.states l.plan.counts.machines l.initial.columns l.columns l.m
