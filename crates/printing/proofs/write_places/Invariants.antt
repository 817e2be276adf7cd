-- `printing::write_places` meets its contract: the places of the machines passed are written. The laws are in `Places`.
use Rattle.printing.proofs.Places.{Placed}
use Rattle.printing.proofs.write_places.Given as goal

abbrev pub invariant-loop-place : goal.invariant-loop-place
invariant-loop-place l = Placed l.places l.initial.i l.initial.out l.out l.i l.place-index
