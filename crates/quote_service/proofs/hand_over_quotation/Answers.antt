-- `quote_service::hand_over_quotation` meets its contract: the quotation is written beside the buffer, and its first bytes are copied if they fit.
use Prim.Native.Nat.{ℕ}
use native.Mathlib.Omega.{arith}
use lib.ListN.{length-replicate}
use Rattle.quote_service.proofs.Handing.{short_buffer, copied}
use Rattle.quote_service.proofs.hand_over_quotation.Goals as goal

pub returns-then-out-size : goal.returns-then-out-size
returns-then-out-size c = short_buffer _ _ c.write_quotation-size.ensures c.if-out-size.true

pub returns : goal.returns
returns c =
    copied _ _ c.write_quotation-size.ensures (omega (arith, c.requires.short, length-replicate {A = ℕ} 2566 0))
    c.if-out-size.false c.write_bytes.ensures
