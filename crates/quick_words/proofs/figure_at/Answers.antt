-- `quick_words::figure_at` meets its contract: the bytes stand in the order in which they are read.
use Rattle.std.proofs.Common.{refl, arith}
use Rattle.quick_words.proofs.Standing.{forwards}
use Rattle.quick_words.proofs.figure_at.Goals as goal

pub returns : goal.returns
returns c =
    forwards _ _ _ _ _ _ _ c.args.s.now c.args.at (omega (arith, c.requires)) refl refl c.digit_value-x.ensures (cc)
    (λ _. (c.requires, refl, cc)) c.sized_figure.ensures
