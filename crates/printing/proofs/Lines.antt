-- A line that is written stands as what is printed, if both are the same word.
use Prim.Native.Nat.{ℕ, ◌≤◌}
use native.Mathlib.Omega.{arith}
use mathlib.Core.Path.{◌≡◌, sym}
use mathlib.Core.List.{List}
use lib.ListN.{length}
use Rattle.writers.specs.Written.{Writes}
use Rattle.printing.specs.Shown.{Shows}
use Rattle.printing.proofs.Showing.{shows_written, shows_same}

pub shows_as : {printed word out left : List ℕ} {n : ℕ} → printed ≡ word → Writes word 0 out n left → n ≤ 32768 → length out ≡ 32768 → Shows printed n left
shows_as e w most size = shows_same (sym e) (shows_written w (omega (arith, w.after)) size)
