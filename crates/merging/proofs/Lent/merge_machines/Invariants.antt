-- `Lent::merge_machines` meets its contract: the machines passed are merged as the model's pass has them. The laws are in `Turns`.
use Rattle.merging.specs.Bars.{seen_in}
use Rattle.merging.specs.Merges.{RestSame}
use Rattle.merging.proofs.Turns.{Turned}
use Rattle.merging.proofs.Lent.merge_machines.Given as goal

abbrev pub invariant-loop-m : goal.invariant-loop-m
invariant-loop-m l =
    record {
      turned : Turned l.initial.plan.counts (seen_in l.self l.initial.moves l.initial.earlier) l.initial.plan.place l.initial.plan.sizes l.plan.place l.plan.sizes l.moves.pre l.moves.post l.earlier l.m;
      rest : RestSame l.initial.plan l.plan;
    }
