-- `quick_words::pack_name` meets its contract: the law of `Packing` on two words.
use Rattle.std.proofs.Common.{arith}
use Rattle.quick_words.proofs.Packing.{packs}
use Rattle.quick_words.proofs.pack_name.Goals as goal

pub returns-clause-packs : goal.returns-clause-packs
returns-clause-packs c =
    packs c.args.s.now (λ i. omega (arith, c.type_inv.s i)) c.args.at c.args.size c.requires.0 c.requires.1 _
    (c.min-first.ensures) c.big_endian.ensures c.big_endian-2.ensures c.fold_case.ensures
    c.fold_case-2.ensures c.first_bytes.ensures c.first_bytes-2.ensures
