-- `irredundant::remove_redundant` meets its contract: the row that it makes is empty. The law is in `Filling` of `closure`.
use native.Mathlib.Omega.{arith}
use Rattle.closure.proofs.Filling.{no_machines_lem}
use Rattle.irredundant.proofs.remove_redundant.Goals as goal

pub thin_by_sets-requires-clause-machines_in_bounds : goal.thin_by_sets-requires-clause-machines_in_bounds
thin_by_sets-requires-clause-machines_in_bounds c = (omega arith, no_machines_lem _ _ 512)

pub thin_by_sets-requires-2-clause-machines_in_bounds : goal.thin_by_sets-requires-2-clause-machines_in_bounds
thin_by_sets-requires-2-clause-machines_in_bounds c = (omega (arith, c.requires.machines), no_machines_lem _ _ 4096)
