-- `printing::print_steps` meets its contract: each way out is a law of `Steps` at what the calls have said.
use Prim.Native.Nat.{◌+◌, ◌≤◌}
use native.Mathlib.Omega.{arith}
use borrow.Author.Rules.{rules}
use lib.ListN.{length}
use Rattle.model.specs.Services.{as_far_as7}
use Rattle.writers.proofs.Refusals.{numeral_most}
use Rattle.writers.proofs.Writing.{writes_length}
use Rattle.stages.specs.Stages.{Held}
use Rattle.rows.proofs.Verdicts.{lets_pass}
use Rattle.printing.proofs.Steps.{steps_refused, steps_short, steps_all}
use Rattle.printing.proofs.print_steps.Goals.{After-write_bytes-c, In_default}
use Rattle.printing.proofs.print_steps.Goals as goal

-- the text is past 7, and the rows hold its value
held : (c : In_default) → Held (as_far_as7 c.args.text.now) c.args.text.now c.read_as_far_as_7.new.plan
held c = c.read_as_far_as_7.ensures.held (lets_pass c.in_default.is)

-- the first line is short
room_left : (c : After-write_bytes-c) → c.write_bytes-c.result + 32000 ≤ length c.write_bytes-c.new.out
room_left c =
    omega (arith, numeral_most c.read_as_far_as_7.new.plan.counts.transitions, writes_length c.write_bytes-c.ensures)

pub returns-in-Err : goal.returns-in-Err
returns-in-Err c =
    steps_refused _ _ c.read_as_far_as_7.ensures.verdict c.in-Err.is c.print_refusal.ensures

pub returns-then-lent-count : goal.returns-then-lent-count
returns-then-lent-count c =
    steps_short (held (goal.at.returns-then-lent-count c).In_default) _ c.if-lent-count.true c.print_refusal-then-lent-count.ensures

pub write_transitions-requires : goal.write_transitions-requires
write_transitions-requires c =
    let most = (held (goal.at.write_transitions-requires c).In_default).bounds.transitions in
    (most, omega (arith, most, room_left (goal.at.write_transitions-requires c).After-write_bytes-c))

pub returns : goal.returns
returns c =
    steps_all (held (goal.at.returns c).In_default) _ c.if-lent-count.false (search rules) c.write_bytes-a.ensures c.write_numeral-b.ensures
    c.write_bytes-c.ensures c.write_transitions.ensures
