-- `quick_words::sized_figure` meets its contract: each size is a case of the tests.
use Rattle.model.specs.Bytes.{is_digit}
use Rattle.quick_words.proofs.Standing.{sized}
use Rattle.quick_words.proofs.sized_figure.Goals as goal

pub returns : goal.returns
unfolding is_digit
returns c =
    let a = c.args in
    sized a.a a.b a.c a.x a.y a.z _ _ _ c.is_ascii_digit-two.ensures.value c.is_ascii_digit.ensures.value c.by_size.ensures c.by_size-value.ensures (cc)
