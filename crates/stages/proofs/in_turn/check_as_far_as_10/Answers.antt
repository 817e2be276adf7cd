-- `stages::in_turn::check_as_far_as_10` meets its contract: the first of two verdicts that refuses is the answer. The laws are in `Order`.
use mathlib.Core.Path.{◌≡◌, refl, sym, ◌∙◌}
use mathlib.Core.Option.{none}
use native.Mathlib.Omega.{arith}
use Rattle.std.proofs.lemmas.Result.{err_from_is_err_and}
use Rattle.model.specs.TransitionSystem.{system_refusal}
use Rattle.rows.specs.Told.{system_of}
use Rattle.transition_system.specs.Sets.{system_rows}
use Rattle.rows.proofs.Verdicts.{lets_pass}
use Rattle.stages.proofs.Order.{system_bounded, rows_used, rows_by_system, rows_by_machines}
use Rattle.stages.proofs.in_turn.check_as_far_as_10.Goals.{In_ok-check_transition_system}
use Rattle.stages.proofs.in_turn.check_as_far_as_10.Goals as goal

-- the transition system is past 7
system-passes : (c : In_ok-check_transition_system)
    → system_refusal (system_of (system_rows c.args.plan.now.counts c.args.plan.now.source c.args.plan.now.event c.args.plan.now.target)) ≡ none
system-passes c =
    sym (rw (c.transitions.ensures.0, c.transitions.ensures.1, c.transitions.ensures.2) at c.check_transition_system.ensures.result_value)
    ∙ lets_pass c.in_ok-check_transition_system.was

pub check_transition_system-requires : goal.check_transition_system-requires
check_transition_system-requires c =
    let (source, event, target) = c.transitions.ensures in
    let most = c.requires.bounded.transitions in
    let (lengths, fresh) = c.requires.checked_sizes in
    record {
      bounded = rw (source, event, target) (system_bounded c.requires.bounded, fresh.excitations);
      transitions_in_bounds =
          rw (source, event, target) (omega (arith, most, lengths.crossed.sources), omega (arith, most, lengths.events), omega (arith, most, lengths.crossed.targets));
    }

pub returns-in_err-check_transition_system : goal.returns-in_err-check_transition_system
returns-in_err-check_transition_system c =
    let p = err_from_is_err_and c.from_residual.result c.from_residual.ensures.1 in
    rw (p.1, p.2)
    (rows_by_system (rw (c.transitions.ensures.0, c.transitions.ensures.1, c.transitions.ensures.2) at c.in_err-check_transition_system.ensures.result_value) refl)

pub check_regions-requires : goal.check_regions-requires
check_regions-requires c =
    let b = c.requires.bounded in
    let (lengths, fresh) = c.requires.checked_sizes in
    record { bounded = b; used = rows_used b (system-passes (goal.at.check_regions-requires c).In_ok-check_transition_system); lengths = lengths; rows = fresh.moves }

pub returns : goal.returns
returns c =
    rows_by_machines (system-passes (goal.at.returns c).In_ok-check_transition_system) c.check_regions.ensures
    (rw (c.transitions.ensures.0, c.transitions.ensures.1, c.transitions.ensures.2) at c.check_transition_system.ensures.excitations (lets_pass c.in_ok-check_transition_system.was))
