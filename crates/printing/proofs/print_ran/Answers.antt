-- `printing::print_ran` meets its contract: the refusal's line, or how far the run went and the places. The laws are in `Runs`.
use native.Mathlib.Omega.{arith}
use borrow.Author.Rules.{rules}
use mathlib.Core.Option.{some}
use mathlib.Core.Path.{sym}
use lib.ListN.{length-take}
use Rattle.model.specs.Printed.{ran_word}
use Rattle.writers.specs.Written.{Writes}
use Rattle.writers.proofs.Writing.{writes_append, writes_length}
use Rattle.printing.proofs.Showing.{shows_same}
use Rattle.printing.proofs.Lines.{shows_as}
use Rattle.printing.proofs.Places.{places_most}
use Rattle.printing.proofs.Runs.{line_refused, line_whole, line_blocked, few_whole, few_blocked, blocked_most}
use Rattle.printing.proofs.print_ran.Goals.{After-write_bytes-e}
use Rattle.printing.proofs.print_ran.Goals as goal

-- what stands before them then
begun : (c : After-write_bytes-e)
    → Writes (ran_word c.in-Blocked.ran (some c.in-Blocked.machine)) 0 c.args.out.now c.write_bytes-e.result
    c.write_bytes-e.new.out
unfolding ran_word
begun c =
    writes_append c.write_bytes-a-in-Blocked.ensures
    (writes_append c.write_numeral-b.ensures
    (writes_append c.write_bytes-c.ensures (writes_append c.write_numeral-d.ensures c.write_bytes-e.ensures)))

pub write_places-requires : goal.write_places-requires
write_places-requires c = (omega (arith, few_whole c.requires c.in-Whole.is, length-take c.args.machines c.args.answer.places), omega arith)

pub write_places-requires-in-Blocked : goal.write_places-requires-in-Blocked
write_places-requires-in-Blocked c =
    let w = begun (goal.at.write_places-requires-in-Blocked c).After-write_bytes-e in
    (omega (arith, few_blocked c.requires c.in-Blocked.is, length-take c.args.machines c.args.answer.places), omega (arith, w.after, writes_length w, blocked_most c.in-Blocked.ran c.in-Blocked.machine))

pub returns-in-Refused : goal.returns-in-Refused
returns-in-Refused c =
    shows_same (sym (line_refused _ c.in-Refused.is)) c.print_refusal.ensures

pub returns-in-Whole : goal.returns-in-Whole
returns-in-Whole c =
    shows_as (line_whole _ c.in-Whole.is) (writes_append c.write_bytes-a.ensures c.write_places.ensures)
    (omega (arith, places_most c.args.answer.places c.args.machines (few_whole c.requires c.in-Whole.is))) (search rules)

pub returns-in-Blocked : goal.returns-in-Blocked
returns-in-Blocked c =
    let w = begun (goal.at.returns-in-Blocked c).After-write_bytes-e in
    let v = c.write_places-in-Blocked.ensures in
    shows_as (line_blocked _ c.in-Blocked.is) (writes_append w v)
    (omega (
      arith,
      w.after,
      v.after,
      blocked_most c.in-Blocked.ran c.in-Blocked.machine,
      places_most c.args.answer.places c.args.machines (few_blocked c.requires c.in-Blocked.is),
    ))
    (search rules)
