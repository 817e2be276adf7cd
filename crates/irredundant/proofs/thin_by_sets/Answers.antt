-- `irredundant::thin_by_sets` meets its contract: the row that it makes is full. The law is in `Extending`.
use native.Mathlib.Omega.{arith}
use Rattle.irredundant.proofs.Extending.{all_states}
use Rattle.irredundant.proofs.thin_by_sets.Goals as goal

pub thin-requires-clause-rows : goal.thin-requires-clause-rows
thin-requires-clause-rows c = (c.requires.machines_in_bounds.1, all_states 256 _ (omega arith))

pub thin-requires-then-events-le-SOME_EVENTS-clause-rows : goal.thin-requires-then-events-le-SOME_EVENTS-clause-rows
thin-requires-then-events-le-SOME_EVENTS-clause-rows c = (c.requires.machines_in_bounds.1, all_states 1024 _ (omega arith))

pub thin-requires-2-clause-rows : goal.thin-requires-2-clause-rows
thin-requires-2-clause-rows c = (c.requires.machines_in_bounds.1, all_states 4096 _ (omega (arith, c.requires.counts_bounded.events)))
