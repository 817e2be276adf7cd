-- Each turn joins the set of one state more, and leaves one less. The laws are in `Images`.
use mathlib.Core.Path.{◌≡◌, sym, ap, ◌∙◌}
use mathlib.Core.Option.{some}
use Rattle.model.specs.Lists.{lowest}
use Rattle.state_set.specs.Member.{member, state_found}
use Rattle.transition_system.proofs.Counting.{lowest_hit}
use Rattle.transition_system.proofs.Images.{join_start, join_end, join_less, join_more}
use Rattle.transition_system.proofs.successors_of.Goals.{In-Some}
use Rattle.transition_system.proofs.successors_of.Goals as goal

pub loop-s-init : goal.loop-s-init
loop-s-init c = join_start

pub returns : goal.returns
unfolding state_found
returns c = join_end c.loop-s.invariant (sym (ap state_found c.in_default.is) ∙ c.lowest.ensures)

-- the state that is taken out
taken : (c : In-Some) → some c.in-Some.s ≡ lowest (member c.loop-s.rest) 256
unfolding state_found
taken c = sym (ap state_found c.in-Some.is) ∙ c.lowest.ensures

pub load-requires : goal.load-requires
load-requires c =
    rw c.from.ensures (c.requires _ (c.loop-s.invariant.part _ (lowest_hit (member c.loop-s.rest) 256 _ (taken (goal.at.load-requires c).In-Some))))

pub loop-s-smaller : goal.loop-s-smaller
loop-s-smaller c =
    join_less c.loop-s.invariant _ (taken (goal.at.loop-s-smaller c).In-Some) (c.without_lowest-rest.ensures _ (taken (goal.at.loop-s-smaller c).In-Some))

pub loop-s-preserved : goal.loop-s-preserved
loop-s-preserved c =
    join_more c.loop-s.invariant _ (taken (goal.at.loop-s-preserved c).In-Some) (c.without_lowest-rest.ensures _ (taken (goal.at.loop-s-preserved c).In-Some)) c.from.ensures c.load.ensures
    c.join-all.ensures
