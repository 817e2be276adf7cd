-- `Lent::merge_machines` meets its contract: the machines passed are merged as the model's pass has them. The laws are in `Turns`.
use native.Mathlib.Omega.{arith}
use mathlib.Core.Path.{refl}
use Rattle.merging.proofs.Turns.{counts_same, rest_further, turn_start, turn_more, turn_end}
use Rattle.merging.proofs.Lent.merge_machines.Goals as goal

pub loop-m-init : goal.loop-m-init
loop-m-init c = record { turned = turn_start c.requires.counts_bounded.1 (omega arith); rest = refl }

pub loop-m-preserved : goal.loop-m-preserved
loop-m-preserved c =
    let q = counts_same c.args.plan.now c.loop-m.plan c.loop-m.invariant.rest in
    record {
      turned = turn_more c.loop-m.invariant.turned (omega arith) c.requires.counts_bounded.0.machines (rw q at c.merge_machine.ensures.merged);
      rest = rest_further c.args.plan.now c.loop-m.plan c.merge_machine.new.plan c.loop-m.invariant.rest c.merge_machine.ensures.rest;
    }

pub returns-clause-merged : goal.returns-clause-merged
returns-clause-merged c = turn_end c.loop-m.invariant.turned (omega arith)
