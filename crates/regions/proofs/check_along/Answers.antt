-- `check_along` meets its contract: the chains are made from the row of events, and what both checks say of any such row is said of this one.
use Rattle.regions.proofs.check_along.Goals as goal

pub returns-then-pass_at_once : goal.returns-then-pass_at_once
returns-then-pass_at_once c = c.pass_at_once.ensures.passed c.if-pass_at_once.true _ c.index_by_event.ensures

pub returns : goal.returns
returns c = c.check_in_turn.ensures _ c.index_by_event.ensures
