-- Bytes in a lent buffer.
use Rattle.std.specs.Prelude.{ℕ, ◌+◌, ◌≡◌, List, length}
use Rattle.std.proofs.lemmas.List.Edits.{sets}

-- bytes are written into a buffer at a position, and nothing else is changed; the answer is the position after them
pub record Writes (word : List ℕ) (at : ℕ) (out : List ℕ) (next : ℕ) (left : List ℕ) : Type 0 where
  pub after : next ≡ at + length word
  pub bytes_left : left ≡ sets out at word
