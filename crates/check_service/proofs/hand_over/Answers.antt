-- `check_service::hand_over` meets its contract: both answers are laws of `Lending` at what the calls have said.
use Rattle.answers.proofs.Lending.{lends_short, lends_written}
use Rattle.check_service.proofs.hand_over.Goals as goal

pub returns-then-lent-size : goal.returns-then-lent-size
returns-then-lent-size c = λ sources events targets duplicates.
    lends_short _ _ _ (c.sheet_len-size.ensures _ _ sources events targets duplicates c.requires.3) c.if-lent-size.true

pub returns : goal.returns
returns c = λ sources events targets duplicates.
    lends_written _ _ _ (c.sheet_len-size.ensures _ _ sources events targets duplicates c.requires.3) _ c.if-lent-size.false
    (c.write_sheet.ensures sources events targets duplicates)
