-- The flat answers hide nothing: answers with the same numbers are the same answer.
use Prim.Native.Nat.{ℕ, ◌≤◌}
use native.Mathlib.Omega.{arith}
use mathlib.Core.Path.{◌≡◌, refl, ap}
use mathlib.Core.Logic.{◌⊎◌, inl, inr}
use mathlib.Core.List.{List}
use lib.ListN.{length}
use Rattle.std.specs.Prelude.{Result, Ok, Err}
use Rattle.model.specs.declared.Refusal as D
use Rattle.model.specs.Refusal.{Refusal, refuse, Checked, refused, passed}
use Rattle.model.specs.Text.{Input}
use Rattle.model.specs.Table.{Offends, Passes, Refused}
use Rattle.model.specs.Services.{Part, name}
use Rattle.model.proofs.Order.{text_number, offence_number}
use Rattle.model.proofs.Demands.{demand1}
use Rattle.thin_service.specs.declared.Kept.{Kept}
use Rattle.thin_service.specs.Answers.{thinned}
use Rattle.split_c.specs.declared.SplitName.{SplitName}
use Rattle.split_c.specs.declared.SplitSet.{SplitSet}
use Rattle.split_c.specs.Flat.{flat_part, flat_set}
use Rattle.flat.proofs.Injective.{tabled_numbered}

-- ---- thin

-- the five numbers tell the refusal, or the kept machines and how many they are
pub flat_set_injective : (a b : Result Kept D.Refusal) → flat_set (thinned a) ≡ flat_set (thinned b) → thinned a ≡ thinned b
unfolding flat_set thinned
flat_set_injective (Err x) (Err y) e = ap (λ (t : SplitSet). refused (refuse t.number t.detail t.second)) e
flat_set_injective (Err x) (Ok k) e = absurd (omega (arith, tabled_numbered x, ap (λ (t : SplitSet). t.number) e))
flat_set_injective (Ok j) (Err y) e = absurd (omega (arith, tabled_numbered y, ap (λ (t : SplitSet). t.number) e))
flat_set_injective (Ok j) (Ok k) e = ap (λ (t : SplitSet). passed (t.machines, t.size)) e

-- ---- name

-- if this answer is a refusal, its number is not 0
abbrev pub Numbered : Checked Part → Type 0
Numbered c = (r : Refusal) → c ≡ refused r → 1 ≤ r.number

-- the five numbers tell the refusal, or where the part begins and how many bytes it has
pub flat_part_injective : (a b : Checked Part) → Numbered a → Numbered b → flat_part a ≡ flat_part b → a ≡ b
unfolding flat_part
flat_part_injective (refused x) (refused y) h k e = ap (λ (t : SplitName). refused (refuse t.number t.detail t.second)) e
flat_part_injective (refused x) (passed q) h k e = absurd (omega (arith, h x refl, ap (λ (t : SplitName). t.number) e))
flat_part_injective (passed p) (refused y) h k e = absurd (omega (arith, k y refl, ap (λ (t : SplitName). t.number) e))
flat_part_injective (passed p) (passed q) h k e = ap (λ (t : SplitName). passed (record { from = t.from; size = t.size })) e

-- each answer of Name is such an answer: its refusal is a row of the table, or 14
name_numbered : (s : List ℕ) (e : ℕ) → Numbered (name s e)
name_numbered s e r q = go ((((demand1 s).naming e).refuses r).0 q)
  where
    offends : Offends s r → 1 ≤ r.number
    offends (inl x) = (text_number s r x).0
    offends (inr w) = omega (arith, offence_number w.0 r w.2)

    go : Refused 7 s r ⊎ ((v : Input) × Passes 7 s v × (length v.names ≤ e) × (r ≡ refuse 14 0 0)) → 1 ≤ r.number
    go (inl f) = offends f.holds
    go (inr w) = rw w.3 (omega arith)

-- so what Name answers is told whole, for any texts and events
pub flat_name_injective : (s t : List ℕ) (e f : ℕ) → flat_part (name s e) ≡ flat_part (name t f) → name s e ≡ name t f
flat_name_injective s t e f = flat_part_injective (name s e) (name t f) (name_numbered s e) (name_numbered t f)
