-- The model's words for what Thin answers tell all of it.
use Prim.Native.Nat.{ℕ}
use mathlib.Core.Path.{◌≡◌, refl, ap, ap₂, sym}
use mathlib.Core.Bool.{Bool}
use mathlib.Core.List.{List}
use lib.ListN.{length}
use Rattle.std.specs.Prelude.{Result, Ok, Err}
use Rattle.model.specs.declared.Refusal as D
use Rattle.model.specs.Refusal.{Checked, refused, passed}
use Rattle.model.specs.Services as Services
use Rattle.model.proofs.Cases.{tabled_injective}
use Rattle.model.proofs.Verdicts.{refused_passed, same_refused, same_passed}
use Rattle.irredundant.specs.declared.Kept.{Kept}
use Rattle.irredundant.specs.Kept.{set_number}
use Rattle.irredundant.proofs.SetNumber.{set_number_injective}
use Rattle.thin_service.specs.Answers.{thinned, numbered_set}

pub thinned_injective : (a b : Result Kept D.Refusal) → thinned a ≡ thinned b → a ≡ b
unfolding thinned
thinned_injective (Err x) (Err y) e = ap Err (tabled_injective x y (same_refused _ _ e))
thinned_injective (Err x) (Ok k) e = absurd (refused_passed _ (k.machines, k.size) e)
thinned_injective (Ok k) (Err x) e = absurd (refused_passed _ (k.machines, k.size) (sym e))
thinned_injective (Ok j) (Ok k) e =
    let q = same_passed (j.machines, j.size) (k.machines, k.size) e in
    ap Ok (ap₂ (λ (m n : ℕ). record { machines = m; size = n }) (ap (λ x. x.0) q) (ap (λ x. x.1) q))

-- the words for what Thin answers tell all of it: the refusal, the machines that are kept, of as many as there are, and their count
pub set_told : (a b : Checked Services.Kept) → ((x y : Services.Kept) → a ≡ passed x → b ≡ passed y → length x.marks ≡ length y.marks) → numbered_set a ≡ numbered_set b → a ≡ b
unfolding numbered_set
set_told (refused x) (refused y) l e = ap refused (same_refused x y e)
set_told (refused x) (passed y) l e = absurd (refused_passed x (set_number y.marks, y.size) e)
set_told (passed x) (refused y) l e = absurd (refused_passed y (set_number x.marks, x.size) (sym e))
set_told (passed x) (passed y) l e =
    let q = same_passed (set_number x.marks, x.size) (set_number y.marks, y.size) e in
    let m = set_number_injective x.marks y.marks (l x y refl refl) (ap (λ z. z.0) q) in
    ap passed (ap₂ (λ (m : List Bool) (n : ℕ). record { marks = m; size = n }) m (ap (λ z. z.1) q))
