-- What name and thin answer as numbers, those that are not in use 0. A refusal's number is never 0, so no answer looks like another (proofs/Injective).
use Rattle.std.specs.Prelude.{ℕ}
use Rattle.model.specs.Refusal.{Checked, refused, passed}
use Rattle.model.specs.Services.{Part}
use Rattle.split_c.specs.declared.SplitName.{SplitName}
use Rattle.split_c.specs.declared.SplitSet.{SplitSet}

unfoldable pub flat_part : Checked Part → SplitName
flat_part (refused r) = record { number = r.number; detail = r.detail; second = r.second; from = 0; size = 0 }
flat_part (passed p) = record { number = 0; detail = 0; second = 0; from = p.from; size = p.size }

unfoldable pub flat_set : Checked (ℕ × ℕ) → SplitSet
flat_set (refused r) = record { number = r.number; detail = r.detail; second = r.second; machines = 0; size = 0 }
flat_set (passed (machines, size)) = record { number = 0; detail = 0; second = 0; machines = machines; size = size }
