-- `quick_step_line::is_framed` meets its contract: the tests by the law of `StepLines`.
use Rattle.quick_step_line.proofs.StepLines.{framed}
use Rattle.quick_step_line.proofs.is_framed.Goals as goal

pub returns : goal.returns
returns c =
    let a = c.args in
    framed a.s.now a.at a.from a.to a.end c.requires.le_from.0 c.requires.le_end.0 _ _ _ _ c.is_step.ensures
    c.is_byte.ensures c.is_byte-2.ensures c.is_end.ensures
