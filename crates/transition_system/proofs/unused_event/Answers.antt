-- The events passed are excited. The laws are in `Unused`.
use native.Mathlib.Omega.{arith}
use borrow.Author.Count.{below_more}
use Rattle.state_set.specs.Member.{state_found}
use Rattle.transition_system.proofs.Unused.{nothing_idle, state_excites, unused_found, all_used}
use Rattle.transition_system.proofs.unused_event.Goals as goal

pub returns-then-is_none : goal.returns-then-is_none
unfolding state_found
returns-then-is_none c ts w b q x =
    unused_found c.requires ts w b q x (omega arith) c.loop-e.invariant (nothing_idle _ _ c.lowest.result c.load.ensures c.lowest.ensures c.if-is_none.ensures)

pub loop-e-preserved : goal.loop-e-preserved
loop-e-preserved c =
    below_more _ _ c.loop-e.invariant (state_excites _ _ c.lowest.result c.load.ensures c.lowest.ensures c.if-is_none.ensures)

pub returns : goal.returns
unfolding state_found
returns c ts w b q x = all_used c.requires ts w b q x (λ j l. c.loop-e.invariant j (omega arith))
