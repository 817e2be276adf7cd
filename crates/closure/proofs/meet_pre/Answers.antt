-- It meets the set of the pre-place, where there is one. The laws are in `Meeting`.
use Rattle.closure.proofs.Meeting.{meets_on, meets_off}
use Rattle.closure.proofs.meet_pre.Goals as goal

pub returns-then-q-lt-MAX_PLACES : goal.returns-then-q-lt-MAX_PLACES
returns-then-q-lt-MAX_PLACES c =
    meets_on _ _ _ _ c.from-q.ensures _ c.load.result c.meet.result c.if-q-lt-MAX_PLACES.true c.load.ensures c.meet.ensures

pub returns-else-q-lt-MAX_PLACES : goal.returns-else-q-lt-MAX_PLACES
returns-else-q-lt-MAX_PLACES c = meets_off _ _ _ _ c.from-q.ensures _ c.if-q-lt-MAX_PLACES.false
