-- `quote_service::quote` meets its contract: the answers are laws of `Handing` at what the calls have said.
use mathlib.Core.Path.{refl}
use Rattle.std.proofs.lemmas.Result.{err_from_is_err_and}
use Rattle.stages.specs.Stages.{Past10}
use Rattle.stages.proofs.Stages.{refused_text_10, past_text_10, counts_bounded}
use Rattle.quote_service.proofs.Handing.{quote_refused, rows_ready, rows_short, cover_refused, handed_over}
use Rattle.quote_service.proofs.quote.Goals.{In_ok-read_as_far_as_10}
use Rattle.quote_service.proofs.quote.Goals as goal

-- the text is past 10
ten : (c : In_ok-read_as_far_as_10)
    → Past10 c.args.text.now c.read_as_far_as_10.new.plan c.read_as_far_as_10.new.moves.pre c.read_as_far_as_10.new.moves.post c.read_as_far_as_10.new.excited
ten c = past_text_10 c.read_as_far_as_10.ensures c.in_ok-read_as_far_as_10.was

pub returns-in_err-read_as_far_as_10 : goal.returns-in_err-read_as_far_as_10
returns-in_err-read_as_far_as_10 c =
    let p = err_from_is_err_and c.from_residual.result c.from_residual.ensures.1 in
    let all = quote_refused _ _ _ (refused_text_10 c.in_err-read_as_far_as_10.ensures refl) in
    record { result_value = rw (p.1, p.2) all.0; out_after = all.1 }

pub remove_redundant-requires : goal.remove_redundant-requires
remove_redundant-requires c = counts_bounded (ten (goal.at.remove_redundant-requires c).In_ok-read_as_far_as_10)

pub returns-in_err-kept : goal.returns-in_err-kept
returns-in_err-kept c =
    let p = err_from_is_err_and c.from_residual-in_err-kept.result c.from_residual-in_err-kept.ensures.1 in
    let all = cover_refused (ten (goal.at.returns-in_err-kept c).In_ok-read_as_far_as_10) _ c.in_err-kept.ensures in
    record { result_value = rw (p.1, p.2) all.0; out_after = all.1 }

pub hand_over_quotation-requires : goal.hand_over_quotation-requires
hand_over_quotation-requires c =
    let k = ten (goal.at.hand_over_quotation-requires c).In_ok-read_as_far_as_10 in
    record { ready = rows_ready k; short = rows_short k _ }

pub returns : goal.returns
returns c =
    let all = handed_over (ten (goal.at.returns c).In_ok-read_as_far_as_10) _ _ _ _ c.in_ok-kept.ensures c.hand_over_quotation.ensures in
    record { result_value = all.0; out_after = all.1 }
