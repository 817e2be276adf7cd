-- `Machines::meet_below` meets its contract: the machines passed have their sets. The laws are in `Extending`.
use native.Mathlib.Omega.{arith}
use Rattle.irredundant.proofs.Extending.{below_start, below_more}
use Rattle.irredundant.proofs.Machines.meet_below.Goals as goal

pub loop-m-init : goal.loop-m-init
loop-m-init c = below_start c.requires.sizes.1

pub loop-m-preserved : goal.loop-m-preserved
loop-m-preserved c =
    below_more c.loop-m.invariant (omega arith) (omega arith)
    c.extend.ensures
