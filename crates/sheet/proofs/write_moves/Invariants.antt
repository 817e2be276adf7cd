-- `sheet::write_moves` meets its contract: the moves of the events passed are written. The laws are in `Moving`.
use Rattle.sheet.proofs.Moving.{Moved}
use Rattle.sheet.proofs.write_moves.Given as goal

abbrev pub invariant-loop-e : goal.invariant-loop-e
invariant-loop-e l =
    Moved l.text l.plan.name_at l.plan.name_len l.moves.pre l.moves.post l.m l.plan.counts.events l.at l.size l.initial.out l.out l.i l.e
