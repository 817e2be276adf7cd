-- `listing::fill`: before each turn the first i records are filled, and the others are as they were.
use Rattle.std.proofs.Common.{◌≡◌, ◌≤◌}
use Rattle.listing.specs.Records.{filled}
use Rattle.listing.proofs.fill.Given as goal

abbrev pub invariant-loop-i : goal.invariant-loop-i
invariant-loop-i l = record { within : l.i ≤ l.k; filled_so_far : l.out ≡ filled l.numbers l.i l.initial.out }
