-- `lines::read_names` meets its contract: the loop keeps `Naming`.
use Prim.Native.Nat.{◌-◌}
use mathlib.Core.Path.{◌≡◌}
use lib.ListN.{length}
use Rattle.lines.proofs.Events.{filling, Naming}
use Rattle.lines.proofs.read_names.Given as goal

abbrev pub invariant-loop-found : goal.invariant-loop-found
invariant-loop-found l =
    record {
      naming : Naming l.s (filling 0 l.at l.initial.spot l.initial.names.«len» l.initial.names.high l.initial.names.low) (filling l.count l.next l.spot l.names.«len» l.names.high l.names.low);
      count_kept : l.names.count ≡ l.initial.names.count;
      hints_kept : l.names.hints ≡ l.initial.names.hints;
    }

abbrev pub decreases-loop-found : goal.decreases-loop-found
decreases-loop-found l = length l.s - l.next
