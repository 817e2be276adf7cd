-- `sheet::heads_len` meets its contract: the sum is over the machines passed.
use Prim.Native.Nat.{◌*◌, ◌≤◌}
use mathlib.Core.Path.{◌≡◌}
use Rattle.sheet.specs.Lengths.{heads_length}
use Rattle.sheet.proofs.heads_len.Given as goal

abbrev pub invariant-loop-m : goal.invariant-loop-m
invariant-loop-m l =
    (l.total ≡ heads_length l.plan.sizes l.plan.place l.plan.counts.initial l.m) × (l.total ≤ 40 * l.m)
