-- Two names are one event: what the library's test of bytes in either case says of them.
use Prim.Native.Nat.{ℕ}
use mathlib.Core.Path.{◌≡◌, refl, sym, ◌∙◌}
use mathlib.Core.Bool.{true}
use mathlib.Core.List.{List, [], ◌∷◌, map}
use Rattle.std.proofs.Common.{arith}
use Rattle.std.proofs.lemmas.Bool.Decides.{nat_tests}
use Rattle.std.specs.Char.{to_ascii_lowercase}
use Rattle.model.specs.Bytes.{lower, is_capital, same_name}
use Rattle.model.proofs.Laws.{T_true}
use Rattle.model.proofs.OneEvent.{one_of, of_one}

pub small : (b : ℕ) → to_ascii_lowercase b ≡ lower b
unfolding lower is_capital
small b = grind (arith, nat_tests)

smalls : (a : List ℕ) → map to_ascii_lowercase a ≡ map lower a
smalls [] = refl
smalls (b ∷ a) = rw (small b, smalls a)

module _ (a b : List ℕ) where
  pub same_small : same_name a b ≡ true → map to_ascii_lowercase a ≡ map to_ascii_lowercase b
  same_small t = smalls a ∙ one_of a b (rw t tt) ∙ sym (smalls b)

  pub small_same : map to_ascii_lowercase a ≡ map to_ascii_lowercase b → same_name a b ≡ true
  small_same e = T_true (same_name a b) (of_one a b (sym (smalls a) ∙ e ∙ smalls b))
