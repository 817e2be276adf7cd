-- Each way out is a law of `Verdicts`.
use native.Mathlib.Omega.{arith}
use Rattle.std.proofs.lemmas.Result.{err_from_is_err_and}
use Rattle.transition_system.proofs.Verdicts.{fork_refuses, closed, event_refuses, state_refuses, all_pass}
use Rattle.transition_system.proofs.check_with.Goals as goal

pub returns-in_err-add_transitions : goal.returns-in_err-add_transitions
returns-in_err-add_transitions c =
    let (why, e, same) = err_from_is_err_and c.from_residual.result c.from_residual.ensures.1 in
    let all = fork_refuses c.requires.bounded.0 c.add_transitions.ensures.result_value c.add_transitions.ensures.sets_of_2 c.in_err-add_transitions.was in
    record { result_value = rw (e, same) all.0; excitations = rw (e, same) all.1 }

pub returns-in-Some : goal.returns-in-Some
returns-in-Some c =
    let all = event_refuses c.requires.bounded.0 c.add_transitions.ensures.result_value c.add_transitions.ensures.sets_of_2 c.in_ok-add_transitions.was
    _ (rw c.in-Some.is at c.unused_event.ensures) in
    record { result_value = all.0; excitations = all.1 }

pub unreached_state-requires : goal.unreached_state-requires
unreached_state-requires c =
    let b = c.requires.bounded.0 in
    let w = c.requires.successors.1 in (
      closed b c.add_transitions.ensures.result_value c.add_transitions.ensures.sets_of_2 c.in_ok-add_transitions.was (omega (arith, w)),
      omega (arith, b.initial, w),
      b.states,
    )

pub returns-in-Some-unreached_state : goal.returns-in-Some-unreached_state
returns-in-Some-unreached_state c =
    let all = state_refuses c.requires.bounded.0 c.add_transitions.ensures.result_value c.add_transitions.ensures.sets_of_2 c.in_ok-add_transitions.was
    (rw c.in_default.is at c.unused_event.ensures) _ (rw c.in-Some-unreached_state.is at c.unreached_state.ensures) in
    record { result_value = all.0; excitations = all.1 }

pub returns : goal.returns
returns c =
    let all = all_pass c.requires.bounded.0 c.add_transitions.ensures.result_value c.add_transitions.ensures.sets_of_2 c.in_ok-add_transitions.was
    (rw c.in_default.is at c.unused_event.ensures) (rw c.in_default-unreached_state.is at c.unreached_state.ensures) in
    record { result_value = all.0; excitations = all.1 }
