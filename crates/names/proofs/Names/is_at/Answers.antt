-- `names::Names::is_at` meets its contract: the three tests of an entry.
use Rattle.names.proofs.HeldNames.{same}
use Rattle.names.proofs.Names.is_at.Goals as goal

pub returns : goal.returns
returns c =
    let r = c.args.self.now in
    let n = c.args.name in
    same r.«len» r.high r.low n.«len» n.high n.low c.args.k
