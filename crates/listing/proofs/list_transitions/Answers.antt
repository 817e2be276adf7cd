-- `listing::list_transitions` meets its contract: the transitions passed are written. The laws are in `Numbers`.
use mathlib.Core.Path.{refl}
use native.Mathlib.Omega.{arith}
use Rattle.listing.proofs.Numbers.{listed_none, listed_more}
use Rattle.listing.proofs.list_transitions.Goals as goal

pub loop-k-init : goal.loop-k-init
loop-k-init c = listed_none _ refl

pub loop-k-preserved : goal.loop-k-preserved
loop-k-preserved c = listed_more c.loop-k.invariant (omega arith)
