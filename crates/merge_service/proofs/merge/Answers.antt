-- `merge_service::merge` meets its contract: the answers are laws of `Handing` at what the calls have said.
use mathlib.Core.Path.{refl, sym, subst}
use Rattle.std.proofs.lemmas.Result.{err_from_is_err_and}
use Rattle.rows.specs.declared.Tables.{Tables}
use Rattle.sheet.specs.Rows.{SheetReady}
use Rattle.stages.specs.Stages.{Past10}
use Rattle.stages.proofs.Stages.{refused_text_10, past_text_10, counts_bounded}
use Rattle.check_service.specs.Handed.{HandsOver}
use Rattle.merge_service.proofs.Handing.{merge_refused, cover_refused, sheet_ready, handed_over, merge_rows, names_held, merge_past}
use Rattle.merge_service.proofs.merge.Goals.{In_ok-read_as_far_as_10}
use Rattle.merge_service.proofs.merge.Goals as goal

-- the text is past 10
ten : (c : In_ok-read_as_far_as_10)
    → Past10 c.args.text.now c.read_as_far_as_10.new.plan c.read_as_far_as_10.new.moves.pre c.read_as_far_as_10.new.moves.post c.read_as_far_as_10.new.excited
ten c = past_text_10 c.read_as_far_as_10.ensures c.in_ok-read_as_far_as_10.was

pub returns-in_err-read_as_far_as_10 : goal.returns-in_err-read_as_far_as_10
returns-in_err-read_as_far_as_10 c =
    let p = err_from_is_err_and c.from_residual.result c.from_residual.ensures.1 in
    let all = merge_refused _ _ _ (refused_text_10 c.in_err-read_as_far_as_10.ensures refl) in
    record { result_value = rw (p.1, p.2) all.0; out_after = all.1 }

pub merge_places-requires : goal.merge_places-requires
merge_places-requires c = let k = ten (goal.at.merge_places-requires c).In_ok-read_as_far_as_10 in (counts_bounded k, merge_rows k)

pub returns-in_err-merge_places : goal.returns-in_err-merge_places
returns-in_err-merge_places c =
    let p = err_from_is_err_and c.from_residual-in_err-merge_places.result c.from_residual-in_err-merge_places.ensures.1 in
    let all = merge_past (ten (goal.at.returns-in_err-merge_places c).In_ok-read_as_far_as_10) _ _ _ (cover_refused _ _ _ _ _ _ _ _ _ _ c.in_err-merge_places.ensures.merges refl) in
    record { result_value = rw (p.1, p.2) all.0; out_after = all.1 }

pub hand_over-requires : goal.hand_over-requires
hand_over-requires c =
    let k = ten (goal.at.hand_over-requires c).In_ok-read_as_far_as_10 in
    let new = c.merge_places.new.moves in
    subst (λ (q : Tables). SheetReady c.args.text.now q.counts q.name_at q.name_len q.sizes q.place new.pre new.post) (sym c.merge_places.ensures.rest)
    (sheet_ready (counts_bounded k) (names_held k) c.merge_places.ensures.merges.rows)

pub returns : goal.returns
returns c =
    let new = c.merge_places.new.moves in
    let handed = subst (λ (q : Tables). HandsOver c.args.text.now q.counts q.name_at q.name_len q.sizes q.place new.pre new.post c.args.out.now c.hand_over.result c.hand_over.new.out) c.merge_places.ensures.rest c.hand_over.ensures in
    let all = merge_past (ten (goal.at.returns c).In_ok-read_as_far_as_10) _ _ _ (handed_over _ _ _ _ _ _ _ _ _ _ _ c.merge_places.ensures.merges c.in_ok-merge_places.was handed) in
    record { result_value = all.0; out_after = all.1 }
