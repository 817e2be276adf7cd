-- `split_c::split_thin` meets its contract.
use Rattle.split_c.proofs.Flattening.{set_refused, set_kept}
use Rattle.split_c.proofs.split_thin.Goals as goal

pub returns-in-Ok : goal.returns-in-Ok
returns-in-Ok c = set_kept _ _ c.in-Ok.ensures c.from.ensures

pub returns-in-Err : goal.returns-in-Err
returns-in-Err c = set_refused _ _ c.in-Err.ensures c.from-n.ensures
