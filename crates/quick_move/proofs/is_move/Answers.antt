-- `quick_move::is_move` meets its contract: the number of the first four bytes tells them, and the others are compared.
use Rattle.std.proofs.Common.{arith}
use Rattle.quick_move.proofs.Moves.{opening}
use Rattle.quick_move.proofs.is_move.Goals as goal

pub returns : goal.returns
returns c =
    opening c.args.s.now (λ i. omega (arith, c.type_inv.s i)) c.args.at _ _ _ _ c.requires c.four_bytes-begins.ensures
    c.is_byte.ensures c.is_byte-2.ensures c.is_byte-3.ensures
