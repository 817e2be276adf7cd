-- `numbers::number_places` meets its contract: each turn makes a group, and leaves fewer places. The laws are in `Numbering`.
use mathlib.Core.Path.{◌≡◌, refl, sym, ap, ◌∙◌}
use mathlib.Core.Option.{some}
use Rattle.model.specs.Lists.{lowest}
use Rattle.state_set.specs.Member.{member, state_found}
use Rattle.merging.proofs.Numbering.{number_start, number_end, first_below, others_small, number_less, number_more}
use Rattle.merging.proofs.numbers.number_places.Goals.{In-Some}
use Rattle.merging.proofs.numbers.number_places.Goals as goal

pub loop-first-init : goal.loop-first-init
loop-first-init c = number_start c.requires.1.words c.requires.1.small c.first_numbers-left.ensures

pub returns : goal.returns
unfolding state_found
returns c = number_end c.loop-first.invariant c.requires.0 (sym (ap state_found c.in_default.is) ∙ c.lowest.ensures)

-- the place that begins a group
taken : (c : In-Some) → some c.in-Some.first ≡ lowest (member c.loop-first.left) 256
unfolding state_found
taken c = sym (ap state_found c.in-Some.is) ∙ c.lowest.ensures

pub gather-left-requires : goal.gather-left-requires
gather-left-requires c =
    let w = c.loop-first.invariant in
    let t = taken (goal.at.gather-left-requires c).In-Some in
    (first_below w t c.requires.0, others_small w t _ (c.without_lowest.ensures _ t) c.requires.0)

pub loop-first-smaller : goal.loop-first-smaller
loop-first-smaller c =
    number_less c.loop-first.invariant (taken (goal.at.loop-first-smaller c).In-Some) _ (c.without_lowest.ensures _ (taken (goal.at.loop-first-smaller c).In-Some)) _ c.gather-left.ensures

pub loop-first-preserved : goal.loop-first-preserved
loop-first-preserved c =
    number_more c.loop-first.invariant (taken (goal.at.loop-first-preserved c).In-Some) _ (c.without_lowest.ensures _ (taken (goal.at.loop-first-preserved c).In-Some)) _ c.gather-left.ensures c.requires.0
    refl
