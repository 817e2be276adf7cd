-- The laws are in `Scanning`.
use borrow.Author.Rules.{rules}
use Rattle.std.proofs.lemmas.Result.{err_from_is_err_and}
use Rattle.transition_system.proofs.Scanning.{scan_start, scan_end, scan_stop, scan_more}
use Rattle.transition_system.proofs.add_transitions.Goals as goal

pub loop-k-init : goal.loop-k-init
loop-k-init c = scan_start c.requires.sets_of

pub returns-in_err-add_transition : goal.returns-in_err-add_transition
returns-in_err-add_transition c =
    let (why, e, same) = err_from_is_err_and c.from_residual.result c.from_residual.ensures.1 in
    let all = scan_stop c.loop-k.invariant c.loop-k-test.true c.in_err-add_transition.was c.add_transition.ensures.result_value in
    record { result_value = rw (e, same) all.0; sets_of_2 = rw (e, same) all.1 }

pub loop-k-preserved : goal.loop-k-preserved
loop-k-preserved c =
    scan_more c.loop-k.invariant c.loop-k-test.true c.in_ok-add_transition.was c.add_transition.ensures.result_value
    c.add_transition.ensures.sets_of_2 (search rules)

pub returns : goal.returns
returns c =
    let all = scan_end c.loop-k.invariant c.loop-k-test.false in
    record { result_value = all.0; sets_of_2 = all.1 }
