-- What Name hands back.
use Prim.Native.Nat.{ℕ, ◌+◌, ◌-◌}
use native.Mathlib.Omega.{arith}
use denote.Ref.{Bor}
use mathlib.Core.Path.{◌≡◌}
use mathlib.Core.List.{List}
use lib.ListN.{take, drop}
use Rattle.std.specs.Prelude.{Result}
use Rattle.model.specs.declared.Refusal as D
use Rattle.model.specs.Services.{name, handed_back}
use Rattle.name_service.specs.declared.NamePart.{NamePart}
use Rattle.name_service.specs.Parts.{part_in, Named, PartOf}

-- the bytes of the text between the ends that the code knows are the part handed back
pub cut :
    {text r : Bor (List ℕ)} {e : ℕ} {a : Result NamePart D.Refusal} → Named text.now e a
    → r.now ≡ take ((part_in a).end - (part_in a).from) (drop (part_in a).from text.now) → r.ref_ptr.0 ≡ text.ref_ptr.0 → r.ref_ptr.1 ≡ text.ref_ptr.1 + (part_in a).from
    → PartOf text (handed_back (name text.now e)) r
cut {text} {r} {e} {a} h bytes block place =
    let size : (part_in a).end - (part_in a).from ≡ (handed_back (name text.now e)).size = omega (arith, h.begins, h.ends) in
    record { bytes = rw (← size, ← h.begins) bytes; block = block; place = rw (← h.begins) place }
