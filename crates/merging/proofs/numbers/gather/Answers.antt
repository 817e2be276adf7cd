-- `numbers::gather` meets its contract: each turn takes the lowest place that is free, and leaves fewer. The laws are in `Gathering`.
use Prim.Native.Nat.{◌<◌}
use mathlib.Core.Path.{◌≡◌, refl, sym, ap, ◌∙◌}
use mathlib.Core.Option.{some}
use borrow.Author.Rules.{rules}
use Rattle.model.specs.Lists.{lowest}
use Rattle.state_set.specs.Member.{member, state_found}
use Rattle.merging.proofs.Gathering.{gather_start, gather_end, gather_less, gather_more, taken_below}
use Rattle.merging.proofs.numbers.gather.Goals.{In-Some}
use Rattle.merging.proofs.numbers.gather.Goals as goal

pub loop-q-init : goal.loop-q-init
loop-q-init c = gather_start _ c.requires.0 (search rules) c.from-2.ensures c.load.ensures c.without-free.ensures

pub returns : goal.returns
unfolding state_found
returns c =
    gather_end c.loop-q.invariant (search rules) c.from.ensures refl (sym (ap state_found c.in_default.is) ∙ c.lowest.ensures)

-- the place that is taken
taken : (c : In-Some) → some c.in-Some.q ≡ lowest (member c.loop-q.free) 256
unfolding state_found
taken c = sym (ap state_found c.in-Some.is) ∙ c.lowest.ensures

low : (c : In-Some) → c.in-Some.q < 64
low c = taken_below c.loop-q.invariant (taken c) c.requires.1

pub bounds-number-from-in-Some : goal.bounds-number-from-in-Some
bounds-number-from-in-Some c = let l = low (goal.at.bounds-number-from-in-Some c).In-Some in search rules

pub load-requires-in-Some : goal.load-requires-in-Some
load-requires-in-Some c =
    let l = low (goal.at.load-requires-in-Some c).In-Some in
    let s = c.requires in
    search rules

pub loop-q-smaller : goal.loop-q-smaller
loop-q-smaller c =
    gather_less c.loop-q.invariant (taken (goal.at.loop-q-smaller c).In-Some) _ _ c.single.ensures c.without-rest.ensures

pub loop-q-preserved : goal.loop-q-preserved
loop-q-preserved c =
    gather_more c.loop-q.invariant (taken (goal.at.loop-q-preserved c).In-Some) _ _ c.single.ensures c.without-rest.ensures _ _ c.requires.1 c.from-in-Some.ensures
    c.from-in-Some-2.ensures (c.without_lowest.ensures _ (taken (goal.at.loop-q-preserved c).In-Some)) c.load-in-Some.ensures c.without-free-in-Some.ensures
