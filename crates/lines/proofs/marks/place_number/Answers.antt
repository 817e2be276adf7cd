-- `lines::place_number` meets its contract.
use Rattle.std.proofs.Common.{arith}
use Rattle.std.proofs.lemmas.Bool.Decides.{nat_tests}
use Rattle.lines.specs.Marking.{up_to64}
use Rattle.lines.proofs.marks.place_number.Goals as goal

pub returns : goal.returns
unfolding up_to64
returns c = grind (arith, nat_tests, c.min.ensures)
