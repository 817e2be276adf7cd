-- What Steps leaves, from the numbers that are listed and the records that are filled from them.
use Prim.Native.Nat.{ℕ}
use mathlib.Core.Path.{◌≡◌, ap, ◌∙◌}
use mathlib.Core.List.{List, ◌++◌, map}
use lib.ListN.{length, drop, length-map}
use Rattle.std.specs.Prelude.{Result}
use Rattle.model.specs.declared.Refusal as D
use Rattle.model.specs.declared.Transition.{Transition}
use Rattle.model.specs.Cases.{recorded}
use Rattle.model.specs.Services.{steps}
use Rattle.model.proofs.ListLaws.{map_append, map_drop}
use Rattle.listing.specs.Records.{first_records, filled}
use Rattle.answers.specs.Answers.{answered}
use Rattle.steps_service.specs.Listing.{written_by, Lists}

pub answers : (s numbers : List ℕ) (ys zs : List Transition) (r : Result ℕ D.Refusal) → Lists s (length ys) numbers r → zs ≡ filled numbers (written_by r) ys
    → (answered r ≡ (steps s (map recorded ys)).answer) × (map recorded zs ≡ (steps s (map recorded ys)).left)
unfolding filled
answers s numbers ys zs r h e =
    let k = written_by r in
    let same = length-map ys recorded in (
      h.answer _ same,
      ap (map recorded) e
          ∙ map_append recorded (first_records numbers k) (drop k ys)
          ∙ ap (λ (l : List _). map recorded (first_records numbers k) ++ l) (map_drop recorded k ys)
          ∙ h.left _ same,
    )
