-- `rows::Tables::fresh` meets its contract.
use borrow.Author.Rules.{rules}
use Rattle.rows.specs.Tables.{no_counts}
use Rattle.rows.proofs.Tables.fresh.Goals as goal

pub returns : goal.returns
unfolding no_counts
returns c = search rules
