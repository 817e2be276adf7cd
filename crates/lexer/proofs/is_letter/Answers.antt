-- `lexer::is_letter` meets its contract: the library asks for a capital first.
use mathlib.Core.Path.{◌∙◌}
use mathlib.Core.Bool.{or_comm}
use Rattle.std.specs.Int.{is_in_range}
use Rattle.model.specs.Bytes.{is_capital, is_letter}
use Rattle.lexer.proofs.is_letter.Goals as goal

pub returns : goal.returns
unfolding is_capital is_letter
returns c = c.is_ascii_alphabetic.ensures.value ∙ or_comm (is_in_range 65 90 c.args.b) (is_in_range 97 122 c.args.b)
