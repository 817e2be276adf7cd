-- `product::run_events` meets its contract: 14, or the run. The laws are in `Unknown`.
use Rattle.std.proofs.Common.{ℕ, ◌<◌, ◌∙◌, sym, ap, arith, length, get_or}
use Rattle.model.specs.Lists.{numbers}
use Rattle.model.specs.Services.{ran_answer}
use Rattle.regions.specs.Moves.{move_at}
use Rattle.product.proofs.Unknown.{unknown_at, unknown_none, all_known, runs_known, runs_unknown}
use Rattle.product.proofs.run_events.Goals as goal

pub returns-in-Some : goal.returns-in-Some
returns-in-Some c =
    let at = unknown_at _ _ c.in-Some.ensures in
    c.refused.ensures ∙ ap ran_answer (sym (runs_unknown _ _ at.1 (move_at _ _) (numbers _) _ at.0))

pub run_from-requires : goal.run_from-requires
run_from-requires c =
    let runs = c.requires in
    let known : (i : ℕ) → i < length c.args.events.now → get_or c.args.events.now i 0 < c.args.declared = all_known _ _ (unknown_none _ _ c.in_default.ensures) (omega arith) in
    (runs.few, runs.standing, λ i l. (omega (arith, runs.known, known i l), runs.on _ (known i l)))

pub returns : goal.returns
returns c = c.run_from.ensures ∙ ap ran_answer (sym (runs_known _ _ (unknown_none _ _ c.in_default.ensures) (move_at _ _) (numbers _) _ (omega arith)))
