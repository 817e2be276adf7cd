-- What is verified of a move.
use Rattle.std.specs.Prelude.{ℕ, ◌+◌, ◌<◌, ◌≡◌, List, [], get_or, Option, IfSome}
use Rattle.model.specs.Bytes.{bytes, Name, OneEvent}
use Rattle.model.specs.Reading.{got}
use Rattle.model.specs.Sheet.{move_form}
use Rattle.model.proofs.Words.{Spans}
use Rattle.names.specs.Held.{PackedNames}
use Rattle.quick_move.specs.declared.QuickMove.{QuickMove}

-- a move stands at a position: of event k, however its name is written, from place a to place b
pub record ReadsMove (s : List ℕ) (at count : ℕ) (lens highs lows : List ℕ) (k a b next : ℕ) : Type 0 where
  pub event : k < count
  pub move : (es : List Name) → PackedNames es count lens highs lows
      → (w : Name) × OneEvent w (get_or es k []) × (move_form s at ≡ got (record { event = w; pre = a; post = b }) next)

-- an unknown move may be anything
abbrev pub ReadsQuickly : List ℕ → ℕ → ℕ → List ℕ → List ℕ → List ℕ → Option QuickMove → Type 0
ReadsQuickly s at count lens highs lows r = IfSome r (λ (q : QuickMove). ReadsMove s at count lens highs lows q.event q.pre q.post q.next)

-- the bytes around the words of a move, whose name ends at `to`, its first figure at `mid`, and its second at `end`
pub record Framed (s : List ℕ) (at to mid end : ℕ) : Type 0 where
  pub opening : Spans s at (bytes " (move ") (at + 7)
  pub behind : Spans s to (bytes " ") (to + 1)
  pub between : Spans s mid (bytes " ") (mid + 1)
  pub closing : Spans s end (bytes ")") (end + 1)
