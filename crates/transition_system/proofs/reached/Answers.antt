-- Each turn keeps what a search holds, and leaves fewer states to be done. When no state waits, the found ones are those that are reached.
use mathlib.Core.Path.{sym}
use Rattle.transition_system.proofs.Counting.{finds_none, finds_some}
use Rattle.transition_system.proofs.Worklist.{begun, Turn, less, again, reaches}
use Rattle.transition_system.proofs.reached.Goals.{After-join-found}
use Rattle.transition_system.proofs.reached.Goals as goal

pub loop-waiting-init : goal.loop-waiting-init
loop-waiting-init c = begun c.requires.1 c.single-found.ensures c.single-waiting.ensures

pub returns : goal.returns
returns c = reaches c.loop-waiting.invariant (finds_none c.lowest.result c.lowest.ensures (sym c.loop-waiting-test.ensures))

-- what the loop's body made of the sets
turned : (c : After-join-found)
    → Turn c.args.successors.now
    c.loop-waiting.found
    c.loop-waiting.waiting
    c.successors_of.result
    c.join-found.result
    c.without-fresh.result
turned c = record { image = c.successors_of.ensures; waits = c.without-fresh.ensures; finds = c.join-found.ensures }

pub loop-waiting-smaller : goal.loop-waiting-smaller
loop-waiting-smaller c =
    let (s, e) = finds_some c.lowest.result c.lowest.ensures (sym c.loop-waiting-test.ensures) in
    less c.loop-waiting.invariant (turned c) s e

pub loop-waiting-preserved : goal.loop-waiting-preserved
loop-waiting-preserved c =
    again c.loop-waiting.invariant (turned c) c.requires.0
