-- `quick_step_line::verified_step` meets its contract: the tests by the law of `StepLines`.
use Rattle.std.proofs.Common.{arith}
use Rattle.quick_step_line.proofs.StepLines.{verified}
use Rattle.quick_step_line.proofs.verified_step.Goals as goal

pub returns-then-formed-named : goal.returns-then-formed-named
returns-then-formed-named c =
    let a = c.args in
    let r = a.names.now in
    verified a.s.now r.«len» r.high r.low a.at a.n r.count _ _ _ _ _ _ _
    c.requires (omega arith) (omega arith) c.figure_at-a.ensures c.figure_before-b.ensures c.name_size.ensures c.pack_name-name.ensures.packs
    _ _ c.is_framed.ensures (rw c.pack_name-name.ensures.len_value at c.is_at-named.ensures) c.if-formed-named.true
