-- `crossing_at` meets its contract.
use Rattle.regions.specs.Crossings.{crossing_at}
use Rattle.regions.proofs.crossings.crossing_at.Goals as goal

pub returns : goal.returns
unfolding crossing_at
returns c = cc
