-- `lines::read_events` meets its contract: the names are those that `read_names` stores.
use mathlib.Core.Path.{◌≡◌, refl}
use Rattle.model.specs.Reading.{fail}
use Rattle.model.specs.Form.{events_line}
use Rattle.lexer.proofs.Answers.{literal_missing, literal_got}
use Rattle.lines.proofs.Events.{events_none, events_are, events_stored, none_stored}
use Rattle.lines.proofs.read_events.Goals as goal

pub returns-in_err-a : goal.returns-in_err-a
unfolding events_line
returns-in_err-a c =
    let z : events_line c.args.s.now c.args.at ≡ fail = simp (literal_missing _ c.read_literal.ensures c.in_err-a.was) in
    let all = none_stored z in
    record { value = rw c.from_residual.ensures all.0; stores_names = all.1; count_kept = refl; hints_kept = refl }

pub returns-in_err-next : goal.returns-in_err-next
returns-in_err-next c =
    let a = literal_got _ c.read_literal.ensures c.in_ok-a.was in
    let z = events_none c.args.s.now c.args.at c.in_ok-a.a a c.read_names-listed.ensures.value (literal_missing _ c.read_literal-2.ensures c.in_err-next.was) in
    let all = none_stored z in
    record {
      value = rw c.from_residual-in_err-next.ensures all.0;
      stores_names = all.1;
      count_kept = c.read_names-listed.ensures.count_kept;
      hints_kept = c.read_names-listed.ensures.hints_kept;
    }

pub returns : goal.returns
returns c =
    let a = literal_got _ c.read_literal.ensures c.in_ok-a.was in
    let l = literal_got _ c.read_literal-2.ensures c.in_ok-next.was in
    record {
      value = events_are c.args.s.now c.args.at c.in_ok-a.a a c.read_names-listed.ensures.value l;
      stores_names = events_stored c.args.s.now c.args.at c.in_ok-a.a a c.read_names-listed.ensures.value l c.read_names-listed.ensures.low_after;
      count_kept = c.read_names-listed.ensures.count_kept;
      hints_kept = c.read_names-listed.ensures.hints_kept;
    }
