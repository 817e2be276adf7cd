-- `quick_step_line::is_step` meets its contract: the number of the first four bytes tells them, and the others are compared.
use Rattle.std.proofs.Common.{arith}
use Rattle.quick_step_line.proofs.StepLines.{opening}
use Rattle.quick_step_line.proofs.is_step.Goals as goal

pub returns : goal.returns
returns c =
    opening c.args.s.now (λ i. omega (arith, c.type_inv.s i)) c.args.at _ _ _ c.requires c.four_bytes.ensures
    c.is_byte.ensures c.is_byte-2.ensures
