-- `lines::read_names` meets its contract: the loop keeps `Naming`.
use borrow.Author.Rules.{rules}
use native.Mathlib.Omega.{arith}
use mathlib.Core.Path.{refl}
use Rattle.model.specs.Form.{spaced_name}
use Rattle.lexer.proofs.Answers.{name_missing, GotName, name_got}
use Rattle.lines.proofs.Events.{names_start, name_reach, names_more, names_past, names_end}
use Rattle.lines.proofs.read_names.Goals.{In-Some, then-count-lt-MAX_EVENTS, else-count-lt-MAX_EVENTS}
use Rattle.lines.proofs.read_names.Goals as goal

-- the name that a turn reads
item : (c : In-Some) → GotName (spaced_name c.args.s.now c.loop-found.next) c.in-Some.found
item c = name_got _ c.read_spaced_name.ensures c.in-Some.is

pub loop-found-init : goal.loop-found-init
loop-found-init c = record { naming = names_start refl (search rules); count_kept = refl; hints_kept = refl }

pub returns : goal.returns
returns c =
    let all = names_end c.loop-found.invariant.naming refl (name_missing _ c.read_spaced_name.ensures c.in_default.is) in
    record { value = all.0; low_after = all.1; count_kept = c.loop-found.invariant.count_kept; hints_kept = c.loop-found.invariant.hints_kept }

pub overflow_sub-spot : goal.overflow_sub-spot
overflow_sub-spot c = omega (arith, name_reach c.loop-found.invariant.naming (item (goal.at.overflow_sub-spot c).In-Some))

pub overflow_add-count : goal.overflow_add-count
overflow_add-count c = omega (arith, name_reach c.loop-found.invariant.naming (item (goal.at.overflow_add-count c).In-Some))

pub loop-found-smaller : goal.loop-found-smaller
loop-found-smaller c = omega (arith, name_reach c.loop-found.invariant.naming (item (goal.at.loop-found-smaller c).In-Some))

pub loop-found-preserved : goal.loop-found-preserved
loop-found-preserved c =
    let inv = c.loop-found.invariant in
    let g = item (goal.at.loop-found-preserved c).In-Some in
    elim c.if-count-lt-MAX_EVENTS.branch [
      | then-count-lt-MAX_EVENTS w ↦
          rw (w.spot-is, w.names-is) (record { naming = names_more inv.naming g; count_kept = inv.count_kept; hints_kept = inv.hints_kept })
      | else-count-lt-MAX_EVENTS w ↦
          rw (w.spot-is, w.names-is)
          (record { naming = names_past inv.naming g w.if-count-lt-MAX_EVENTS.false; count_kept = inv.count_kept; hints_kept = inv.hints_kept })
    ]
