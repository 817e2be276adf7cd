-- `lexer::pack_run` meets its contract: the loop's invariant and its laws are in `Packing`.
use Prim.Native.Nat.{◌+◌}
use native.Mathlib.Omega.{arith}
use mathlib.Core.Path.{◌≡◌, refl}
use lib.Bits.{or_lt}
use Rattle.model.specs.Bytes.{is_digit, is_capital, is_letter, is_name_byte}
use Rattle.lexer.proofs.Runs.{passing}
use Rattle.lexer.proofs.Packing.{pack_more, pack_fits}
use Rattle.lexer.proofs.pack_run.Goals as goal

pub overflow_mul-value : goal.overflow_mul-value
overflow_mul-value c = omega (arith, pack_fits c.loop-k.invariant (omega arith))

pub overflow_add-value : goal.overflow_add-value
overflow_add-value c = omega (arith, pack_fits c.loop-k.invariant (omega arith), or_lt 8)

pub loop-k-preserved : goal.loop-k-preserved
unfolding is_digit is_capital is_letter is_name_byte
loop-k-preserved c =
    let n : c.args.from + (c.loop-k.k + 1) ≡ c.args.from + c.loop-k.k + 1 = omega arith in
    rw n
    (pack_more c.loop-k.invariant (omega arith) (passing c.is_name_byte.ensures c.byte_at-b.ensures refl c.if-not-is_name_byte.false) c.byte_at-b.ensures (omega arith)
    c.from.ensures)
