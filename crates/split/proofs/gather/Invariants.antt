-- `split::gather` meets its contract: each turn puts one word behind the others. The laws are in `Gathering`.
use Rattle.std.proofs.Common.{◌≡◌, length}
use Rattle.split.proofs.Gathering.{Gathering}
use Rattle.split.proofs.gather.Given as goal

abbrev pub invariant-loop-i : goal.invariant-loop-i
invariant-loop-i g l = (length l.row ≡ length l.initial.row) × Gathering l.words l.row l.n l.i
