-- Bytes in a part of a lent buffer that will be written whole.
use Rattle.std.specs.Prelude.{ℕ, ◌+◌, ◌≡◌, List, ◌++◌, length, take, drop}

-- bytes are written into a buffer at a position, and what stands before them or from `size` on is not changed; between the two anything may stand
pub record WritesWithin (word : List ℕ) (at size : ℕ) (out : List ℕ) (next : ℕ) (left : List ℕ) : Type 0 where
  pub after : next ≡ at + length word
  pub same_length : length left ≡ length out
  pub front : take next left ≡ take at out ++ word
  pub rest : drop size left ≡ drop size out
