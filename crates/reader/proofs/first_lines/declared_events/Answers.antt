-- `reader::declared_events` meets its contract. Each way out is a law of `Phases`.
use Rattle.std.proofs.Common.{sym, arith}
use Rattle.model.specs.Cases.{tabled}
use Rattle.lines.proofs.Found.{events_got, events_missing}
use Rattle.reader.proofs.first_lines.EventRows.{events_rows, events_placed}
use Rattle.reader.proofs.Phases.{events_fail, events_many, events_twice, events_more}
use Rattle.reader.proofs.first_lines.declared_events.Goals as goal

pub returns-in_default-clause-reads_events : goal.returns-in_default-clause-reads_events
unfolding tabled
returns-in_default-clause-reads_events c = λ n o x r. events_fail r (events_missing _ _ c.read_events.ensures.value c.in_default.is)

pub returns-then-line-gt-MAX_EVENTS-clause-reads_events : goal.returns-then-line-gt-MAX_EVENTS-clause-reads_events
unfolding tabled
returns-then-line-gt-MAX_EVENTS-clause-reads_events c =
    let g = events_got _ _ c.read_events.ensures.value c.read_events.ensures.stores_names c.in-Some.is in
    λ n o x r. events_many r g.read (omega (arith, g.counted, c.if-line-gt-MAX_EVENTS.true))

pub returns-then-not-distinct-clause-reads_events : goal.returns-then-not-distinct-clause-reads_events
unfolding tabled
returns-then-not-distinct-clause-reads_events c =
    let g = events_got _ _ c.read_events.ensures.value c.read_events.ensures.stores_names c.in-Some.is in
    let held = events_rows g c.requires c.if-line-gt-MAX_EVENTS.false in
    λ n o x r. events_twice r g.read held.most (sym (c.if-not-distinct.ensures g.names held))

pub returns-clause-reads_events : goal.returns-clause-reads_events
returns-clause-reads_events c =
    let g = events_got _ _ c.read_events.ensures.value c.read_events.ensures.stores_names c.in-Some.is in
    let held = events_rows g c.requires c.if-line-gt-MAX_EVENTS.false in
    let once = sym (c.if-not-distinct.ensures g.names held) in
    λ n o x r. record {
      names = g.names;
      held = record { rows = held; once = once };
      placed = events_placed g c.requires;
      rest = events_more r g.read held.most once;
    }
