-- The parts of a sheet by their length.
use Prim.Native.Nat.{ℕ, ◌+◌}
use native.Mathlib.Omega.{arith}
use mathlib.Core.Path.{◌≡◌}
use mathlib.Core.List.{List, []}
use lib.ListN.{length}
use Rattle.model.specs.Bytes.{bytes, digits}
use Rattle.model.specs.Sheet.{move_bytes}
use Rattle.writers.proofs.Writing.{spaced}
use Rattle.sheet.specs.Written.{head_bytes, places_bytes}

pub length_move : (name : List ℕ) (pre post : ℕ) → length (move_bytes name pre post) ≡ 10 + length name + length (digits pre) + length (digits post)
unfolding move_bytes
length_move name pre post = spaced (bytes " (move ") name (bytes " ") (digits pre) (bytes " ") (digits post) (bytes ")")

pub length_places : (pre post : ℕ) → length (places_bytes pre post) ≡ 3 + length (digits pre) + length (digits post)
unfolding places_bytes
length_places pre post = omega (arith, spaced [] [] (bytes " ") (digits pre) (bytes " ") (digits post) (bytes ")"))

pub length_head : (k size start : ℕ) → length (head_bytes k size start) ≡ 28 + length (digits k) + length (digits size) + length (digits start)
unfolding head_bytes
length_head k size start = spaced (bytes "(machine ") (digits k) (bytes " (places ") (digits size) (bytes ") (start ") (digits start) (bytes ")")
