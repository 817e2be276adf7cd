-- A part of a row that is copied over is a run of stores.
use Rattle.std.proofs.Common.{◌≡◌, ℕ, ◌+◌, ◌≤◌, List, length, sym, arith, drop-drop, append_assoc}
use borrow.Rule.Slice.PartMut.{put_mid}
use Rattle.std.proofs.lemmas.List.Edits.{sets, sets-eq}

pub stored : (t row : List ℕ) (a n : ℕ) → n ≡ length row → a + n ≤ length t → put_mid a n t row ≡ sets t a row
stored t row a n e h = rw (drop-drop n a t, e, ← append_assoc) (sym (sets-eq row t a (omega arith)))
