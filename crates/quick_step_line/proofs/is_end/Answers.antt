-- `quick_step_line::is_end` meets its contract: the number of two bytes tells them.
use Rattle.std.proofs.Common.{arith}
use Rattle.quick_step_line.proofs.StepLines.{closing}
use Rattle.quick_step_line.proofs.is_end.Goals as goal

pub returns : goal.returns
returns c =
    closing c.args.s.now (λ i. omega (arith, c.type_inv.s i)) c.args.at c.requires c.from_be_bytes.ensures
