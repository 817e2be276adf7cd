-- The entry of the event on the machine is a place. The law is in `Effective`.
use Rattle.closure.proofs.Effective.{on_entry}
use Rattle.closure.proofs.is_on.Goals as goal

pub returns : goal.returns
returns c = on_entry _ _ _ c.from.ensures
