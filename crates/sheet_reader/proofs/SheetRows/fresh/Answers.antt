-- Rows of no names, and of pre-places that no event has, are fresh.
use borrow.Author.Rules.{rules}
use Rattle.sheet_reader.proofs.Sheeting.{fresh_sheet}
use Rattle.sheet_reader.proofs.SheetRows.fresh.Goals as goal

pub returns : goal.returns
returns c = fresh_sheet (search rules) (search rules) (search rules)
