-- `split_c::split_name` meets its contract: where the name stands, by its two ends.
use Rattle.split_c.proofs.Flattening.{name_refused, name_passed}
use Rattle.split_c.proofs.split_name.Goals as goal

pub returns-in-Ok : goal.returns-in-Ok
returns-in-Ok c = name_passed c.in-Ok.ensures

pub returns-in-Err : goal.returns-in-Err
returns-in-Err c = name_refused _ c.in-Err.ensures c.from-n.ensures
