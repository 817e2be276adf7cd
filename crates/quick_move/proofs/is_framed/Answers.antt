-- `quick_move::is_framed` meets its contract: the tests by the law of `Moves`.
use Rattle.quick_move.proofs.Moves.{framed}
use Rattle.quick_move.proofs.is_framed.Goals as goal

pub returns : goal.returns
returns c =
    let a = c.args in
    framed a.s.now a.at a.to a.mid a.end _ _ _ _ c.is_move.ensures c.is_byte.ensures
    c.is_byte-2.ensures c.is_byte-3.ensures
