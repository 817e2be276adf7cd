-- The model's words for Name's refusal tell all of it, and so does the part that Name hands back.
use Prim.Native.Nat.{ℕ}
use mathlib.Core.Path.{◌≡◌, refl, ap, sym, ◌∙◌}
use mathlib.Core.List.{List}
use mathlib.Core.Option.{some-ne-none, some-injective}
use denote.Ref.{Bor}
use Rattle.std.specs.Prelude.{Result, Ok, Err}
use Rattle.model.specs.declared.Refusal as D
use Rattle.model.specs.Services.{Part}
use Rattle.model.proofs.Cases.{tabled_injective}
use Rattle.rows.specs.Tables.{verdict_refusal}
use Rattle.name_service.specs.Parts.{PartOf}

pub verdict_injective : (a b : Result (Unit {0}) D.Refusal) → verdict_refusal a ≡ verdict_refusal b → a ≡ b
unfolding verdict_refusal
verdict_injective (Err x) (Err y) e = ap Err (tabled_injective x y (some-injective _ _ e))
verdict_injective (Err x) (Ok _) e = absurd (some-ne-none _ e)
verdict_injective (Ok _) (Err y) e = absurd (some-ne-none _ (sym e))
verdict_injective (Ok _) (Ok _) e = refl

-- parts of one text with the same words have the same bytes at the same place
pub part_determined : {text r q : Bor (List ℕ)} {part : Part} → PartOf text part r → PartOf text part q
    → (r.now ≡ q.now) × (r.ref_ptr.0 ≡ q.ref_ptr.0) × (r.ref_ptr.1 ≡ q.ref_ptr.1)
part_determined a b = (a.bytes ∙ sym b.bytes, a.block ∙ sym b.block, a.place ∙ sym b.place)
