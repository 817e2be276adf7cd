-- `quick_move::is_known` meets its contract: the tests by the law of `Moves`.
use Rattle.quick_move.proofs.Moves.{known}
use Rattle.quick_move.proofs.is_known.Goals as goal

pub returns : goal.returns
returns c =
    let r = c.args.names.now in
    let n = c.args.name in
    known r.«len» r.high r.low n.«len» n.high n.low c.args.k r.count _ c.is_at.ensures
