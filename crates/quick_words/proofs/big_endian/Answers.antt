-- `quick_words::big_endian` meets its contract: the law of `Packing` on eight bytes.
use Rattle.std.proofs.Common.{ap, ◌∙◌}
use Rattle.std.specs.Int.{from_be_bytes, w64}
use Rattle.quick_words.proofs.Packing.{eight}
use Rattle.quick_words.proofs.big_endian.Goals as goal

pub returns : goal.returns
returns c = c.from_be_bytes.ensures ∙ ap (from_be_bytes w64) c.eight_bytes.ensures ∙ eight c.args.s.now c.args.at c.requires
