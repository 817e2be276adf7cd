-- `printing::print_refusal` meets its contract: the line of a refusal's numbers.
use native.Mathlib.Omega.{arith}
use borrow.Author.Rules.{rules}
use Rattle.answers.specs.Answers.{numbered}
use Rattle.writers.proofs.Refusals.{refusal_fits}
use Rattle.printing.proofs.Showing.{shows_refusal}
use Rattle.printing.proofs.print_refusal.Goals as goal

pub write_refusal-requires : goal.write_refusal-requires
write_refusal-requires c =
    let row = c.from-row.result in
    omega (arith, refusal_fits row.number row.detail row.second)

pub returns : goal.returns
unfolding numbered
returns c =
    shows_refusal (search rules) c.from-row.ensures c.write_refusal.ensures
