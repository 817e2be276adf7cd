-- `sheet::moves_len` meets its contract: the sum is over the events passed.
use Prim.Native.Nat.{◌*◌, ◌≤◌}
use mathlib.Core.Path.{◌≡◌}
use Rattle.sheet.specs.Lengths.{moves_length}
use Rattle.sheet.proofs.moves_len.Given as goal

abbrev pub invariant-loop-e : goal.invariant-loop-e
invariant-loop-e l =
    (l.total ≡ moves_length l.plan.name_len l.moves.pre l.moves.post l.plan.counts.machines l.e) × (l.total ≤ 512 * l.e)
