-- `index_by_event` meets its contract. The laws are in `Indexing`.
use Rattle.std.proofs.Common.{◌-◌, refl, ◌∙◌, arith, length-set}
use Rattle.regions.proofs.chains.Indexing.{index_none, index_more}
use Rattle.regions.proofs.chains.index_by_event.Goals as goal

pub loop-k-init : goal.loop-k-init
loop-k-init c = (index_none _ _ _ _ c.requires.first_value.0 c.requires.first_value.1, refl)

pub loop-k-preserved : goal.loop-k-preserved
loop-k-preserved c =
    let i = c.loop-k.invariant in (
      index_more i.0 (omega arith) c.from-e.ensures (omega (arith, c.from-e.ensures, c.requires.n_bound.1 (c.loop-k.k - 1) (omega arith))) refl,
      length-set c.loop-k.next _ _ ∙ i.1,
    )
