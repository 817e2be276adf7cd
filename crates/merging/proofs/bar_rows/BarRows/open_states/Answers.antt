-- `BarRows::open_states` meets its contract. The law is in `Pairing`.
use Rattle.merging.proofs.Pairing.{open_is}
use Rattle.merging.proofs.bar_rows.BarRows.open_states.Goals as goal

pub returns : goal.returns
returns c = open_is _ _ _ _ _ c.load.result c.load-2.result c.meet-common.result c.load-3.result c.without.result c.load.ensures c.load-2.ensures c.meet-common.ensures c.load-3.ensures c.without.ensures
