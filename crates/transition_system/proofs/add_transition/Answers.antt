-- `transition_system::add_transition` meets its contract. Each way out is a law of `Adding`.
use mathlib.Core.Path.{◌≡◌}
use lib.ListN.{get_or}
use Rattle.state_set.specs.Rows.{member_at}
use Rattle.transition_system.proofs.Adding.{tested, stands, forks, enters}
use Rattle.transition_system.proofs.add_transition.Goals.{After-contains_at}
use Rattle.transition_system.proofs.add_transition.Goals as goal

-- whether the event is excited already
excites : (c : After-contains_at) → c.contains_at.result
    ≡ member_at c.args.excited.now (get_or c.args.transitions.event.now c.args.k 0)
    (get_or c.args.transitions.source.now c.args.k 0)
excites c = tested _ _ c.from.ensures c.contains_at.ensures

pub returns-then-s-t : goal.returns-then-s-t
returns-then-s-t c =
    let all = stands c.requires.in_rows c.if-s-t.true in
    record { result_value = all.0; sets_of_2 = all.1 }

pub returns-then-contains_at : goal.returns-then-contains_at
returns-then-contains_at c =
    let all = forks c.requires.in_rows c.requires.sets_of c.if-s-t.false (excites (goal.at.returns-then-contains_at c).After-contains_at) c.if-contains_at.true (rw c.unwrap_or-earlier.ensures (c.first_leading.ensures.0 _)) in
    record { result_value = all.0; sets_of_2 = all.1 }

pub returns : goal.returns
returns c =
    let all = enters c.requires.in_rows c.requires.sets_of c.if-s-t.false (excites (goal.at.returns c).After-contains_at) c.if-contains_at.false c.from-2.ensures c.insert.ensures
    c.from-3.ensures c.insert-2.ensures in
    record { result_value = all.0; sets_of_2 = all.1 }
