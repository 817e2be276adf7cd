-- From what the four calls gave.
use Rattle.closure.proofs.Meeting.{left_open}
use Rattle.closure.proofs.open_state.Goals as goal

pub returns : goal.returns
returns c =
    let w = c.without in
    let l = c.load-excitation in
    let s = c.common_states-common in
    left_open _ _ _ _ _ s.result l.result w.result s.ensures l.ensures w.ensures c.lowest.ensures
