-- `BarRows::bar_event` meets its contract: the event is not on the machine, has no open state, or bars. The laws are in `Pairing`.
use native.Mathlib.Omega.{arith}
use mathlib.Core.Path.{refl, sym}
use Rattle.merging.proofs.Pairing.{event_off, event_closed, event_bars}
use Rattle.merging.proofs.bar_rows.BarRows.bar_event.Goals as goal

pub returns-then-is_some : goal.returns-then-is_some
returns-then-is_some c =
    event_bars _ _ _ _ _ c.open_states-open.result c.lowest.result c.open_states-open.ensures c.lowest.ensures (omega arith) refl refl (sym c.if-is_some.ensures) c.bar.ensures c.bar_met.ensures

pub returns-else-is_some : goal.returns-else-is_some
returns-else-is_some c = event_closed _ _ _ _ _ c.open_states-open.result c.lowest.result c.open_states-open.ensures c.lowest.ensures (sym c.if-is_some.ensures)

pub returns-else-from-lt-MAX_PLACES : goal.returns-else-from-lt-MAX_PLACES
returns-else-from-lt-MAX_PLACES c = event_off _ _ _ _ _ (λ l. omega (arith, l, c.if-from-lt-MAX_PLACES.false, c.from.ensures))
