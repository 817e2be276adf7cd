-- With a row of either size.
use native.Mathlib.Omega.{arith}
use Rattle.closure.proofs.Filling.{no_machines_lem}
use Rattle.closure.proofs.check_cover.Goals as goal

pub check_cover_in-requires : goal.check_cover_in-requires
check_cover_in-requires c = record { counts_bounded = c.requires; machines_in_bounds = (omega (arith, c.if-plan-le-FEW_MACHINES.true), no_machines_lem _ _ 512) }

pub check_cover_in-requires-else-plan-le-FEW_MACHINES : goal.check_cover_in-requires-else-plan-le-FEW_MACHINES
check_cover_in-requires-else-plan-le-FEW_MACHINES c =
    let p = c.requires in
    record { counts_bounded = p; machines_in_bounds = (omega (arith, p.machines), no_machines_lem _ _ 4096) }
