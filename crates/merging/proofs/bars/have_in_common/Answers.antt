-- `bars::have_in_common` meets its contract. The law is in `Pairing`.
use Rattle.merging.proofs.Pairing.{in_common}
use Rattle.merging.proofs.bars.have_in_common.Goals as goal

pub returns : goal.returns
returns c = in_common _ _ c.meet.result c.lowest.result c.meet.ensures c.lowest.ensures c.is_some.ensures
