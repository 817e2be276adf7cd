-- `writers::tens_at` meets its contract.
use native.Mathlib.Omega.{arith}
use Rattle.std.proofs.lemmas.Bool.Decides.{nat_tests}
use Rattle.writers.proofs.Figures.{tens_first, tens_second}
use Rattle.writers.proofs.tens_at.Goals as goal

pub returns : goal.returns
returns c = grind (arith, nat_tests, tens_first, tens_second)
