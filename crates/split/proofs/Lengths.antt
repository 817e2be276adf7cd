-- Rows of their length.
use Prim.Native.Nat.{ℕ}
use mathlib.Core.Path.{◌≡◌, sym}
use lib.ListN.{length, replicate, length-replicate}

-- for any length: a long row is not to be computed
pub cleared : (n a : ℕ) → n ≡ length (replicate n a)
cleared n a = sym (length-replicate n a)
