-- `merging::merge_places` meets its contract: the rows that it makes begin empty, or full.
use native.Mathlib.Omega.{arith}
use Rattle.closure.proofs.Filling.{no_machines_lem}
use Rattle.merging.proofs.Later.{all_full}
use Rattle.merging.proofs.merge_places.Goals as goal

pub merge_with-requires-clause-machines_in_bounds : goal.merge_with-requires-clause-machines_in_bounds
merge_with-requires-clause-machines_in_bounds c = (omega arith, no_machines_lem _ _ 512)

pub merge_with-requires-clause-events_in_bounds : goal.merge_with-requires-clause-events_in_bounds
merge_with-requires-clause-events_in_bounds c = (omega arith, all_full 256 _ (omega arith))

pub merge_with-requires-2-clause-machines_in_bounds : goal.merge_with-requires-2-clause-machines_in_bounds
merge_with-requires-2-clause-machines_in_bounds c = (omega (arith, c.requires.0.machines), no_machines_lem _ _ 4096)

pub merge_with-requires-2-clause-events_in_bounds : goal.merge_with-requires-2-clause-events_in_bounds
merge_with-requires-2-clause-events_in_bounds c = (omega (arith, c.requires.0.events), all_full 4096 _ (omega (arith, c.requires.0.events)))
