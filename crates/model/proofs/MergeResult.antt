-- The words of the paper determine what the pass leaves.
use Prim.Native.Nat.{ℕ, suc, ◌<◌, ◌≤◌}
use native.Mathlib.Omega.{arith}
use mathlib.Core.Path.{◌≡◌, refl}
use mathlib.Core.Logic.{◌⊎◌, inl, inr}
use Rattle.model.specs.TransitionSystem.{TransitionSystem}
use Rattle.model.specs.Machine.{Decomposition}
use Rattle.model.specs.Merging.{merge_in}
use Rattle.model.specs.Merged.{Before, Pass, merges, next, done}
use Rattle.model.proofs.Laws.{order}
use Rattle.model.proofs.Positions.{at_below}

-- of two first pairs neither comes before the other
data Compared (a b i j : ℕ) : Type 0 where
  same : a ≡ i → b ≡ j → Compared a b i j
  earlier : Before a b i j → Compared a b i j
  later : Before i j a b → Compared a b i j

compare : (a b i j : ℕ) → Compared a b i j
compare a b i j = go (order a i) (order i a) (order b j) (order j b)
  where
    go : (a < i) ⊎ (i ≤ a) → (i < a) ⊎ (a ≤ i) → (b < j) ⊎ (j ≤ b) → (j < b) ⊎ (b ≤ j) → Compared a b i j
    go (inl x) y z w = earlier (inl x)
    go (inr x) (inl y) z w = later (inl y)
    go (inr x) (inr y) (inl z) w = earlier (inr (omega arith, z))
    go (inr x) (inr y) (inr z) (inl w) = later (inr (omega arith, w))
    go (inr x) (inr y) (inr z) (inr w) = same (omega arith) (omega arith)

pub pass_only : (p : TransitionSystem) (k : ℕ) (ms xs ys : Decomposition) → Pass p k ms xs → Pass p k ms ys → xs ≡ ys
pass_only p k ms xs ys (merges i j m f x) (merges c d n g y) = go (compare i j c d) (pass_only p k (merge_in k i j ms) xs ys x)
  where
    go : Compared i j c d → (Pass p k (merge_in k i j ms) ys → xs ≡ ys) → xs ≡ ys
    go (same e h) ih = ih (rw (e, h) y)
    go (earlier z) ih = absurd (g i j z m)
    go (later z) ih = absurd (f c d z n)
pass_only p k ms xs ys (merges i j m f x) (next l g y) = absurd (g i j m)
pass_only p k ms xs ys (merges i j m f x) (done l) = absurd (omega (arith, at_below ms k m.machine m.numbered, l))
pass_only p k ms xs ys (next l f x) (merges i j m g y) = absurd (f i j m)
pass_only p k ms xs ys (next l f x) (next h g y) = pass_only p (suc k) ms xs ys x y
pass_only p k ms xs ys (next l f x) (done h) = absurd (omega (arith, l, h))
pass_only p k ms xs ys (done l) (merges i j m g y) = absurd (omega (arith, at_below ms k m.machine m.numbered, l))
pass_only p k ms xs ys (done l) (next h g y) = absurd (omega (arith, l, h))
pass_only p k ms xs ys (done l) (done h) = refl
