-- `quick_words::figure_before` meets its contract: the bytes stand from the last on.
use Rattle.std.proofs.Common.{refl}
use Rattle.quick_words.proofs.Standing.{backwards}
use Rattle.quick_words.proofs.figure_before.Goals as goal

pub returns : goal.returns
returns c =
    backwards _ _ _ _ _ _ _ c.args.s.now c.args.end c.requires.0 c.requires.1 refl refl refl c.digit_value-x.ensures (cc) (cc) c.sized_figure.ensures
