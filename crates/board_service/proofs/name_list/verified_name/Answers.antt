-- `board_service::name_list::verified_name` meets its contract: the law is in `Looking`.
use Rattle.std.proofs.Common.{◌≡◌, sym, arith}
use Rattle.board_service.proofs.Looking.{verified}
use Rattle.board_service.proofs.name_list.verified_name.Goals as goal

pub returns-then-is_byte-named : goal.returns-then-is_byte-named
returns-then-is_byte-named c =
    let z : c.guess_size.result ≡ c.pack_name-name.result.«len» = sym c.pack_name-name.ensures.len_value in
    verified _ _ _ _ _ _ _ _ _ _ c.requires (omega arith) (rw z at c.pack_name-name.ensures.packs) _ _ c.is_byte.ensures c.is_at-named.ensures c.if-is_byte-named.true
