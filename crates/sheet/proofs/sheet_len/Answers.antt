-- `sheet::sheet_len` meets its contract: the first line, what stands around the moves, and the moves. The law is in `Lengths`.
use native.Mathlib.Omega.{arith}
use Rattle.sheet.proofs.Lengths.{sheet_length}
use Rattle.sheet.proofs.sheet_len.Goals as goal

pub returns : goal.returns
returns c = sheet_length _ _ _ _ _ _ (omega arith) c.heads_len.ensures.length c.moves_len.ensures.length
