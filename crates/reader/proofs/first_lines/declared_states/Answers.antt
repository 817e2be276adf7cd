-- `reader::declared_states` meets its contract. Each way out is a law of `Phases`.
use Rattle.std.proofs.Common.{sym}
use Rattle.model.specs.Cases.{tabled}
use Rattle.model.proofs.Whole.{read_long}
use Rattle.lines.proofs.Found.{states_got, states_missing}
use Rattle.reader.proofs.Phases.{states_fail, states_limit, start_undeclared, states_found}
use Rattle.reader.proofs.first_lines.declared_states.Goals as goal

pub returns-then-s-gt-MAX_TEXT : goal.returns-then-s-gt-MAX_TEXT
unfolding tabled
returns-then-s-gt-MAX_TEXT c = read_long _ c.if-s-gt-MAX_TEXT.true

pub returns-in_default : goal.returns-in_default
unfolding tabled
returns-in_default c = states_fail _ (states_missing _ _ c.read_states.ensures c.in_default.is) c.if-s-gt-MAX_TEXT.false

pub returns-then-not-within_states : goal.returns-then-not-within_states
unfolding tabled
returns-then-not-within_states c = states_limit _ (states_got _ _ c.read_states.ensures c.in-Some.is) c.if-s-gt-MAX_TEXT.false (sym c.if-not-within_states.ensures)

pub returns-then-line : goal.returns-then-line
unfolding tabled
returns-then-line c = start_undeclared _ (states_got _ _ c.read_states.ensures c.in-Some.is) c.if-s-gt-MAX_TEXT.false (sym c.if-not-within_states.ensures) c.if-line.true

pub returns : goal.returns
returns c = states_found _ (states_got _ _ c.read_states.ensures c.in-Some.is) c.if-s-gt-MAX_TEXT.false (sym c.if-not-within_states.ensures) c.if-line.false
