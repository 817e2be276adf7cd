-- What is verified of a step line.
use Rattle.std.specs.Prelude.{◌≡◌, ℕ, ◌+◌, ◌-◌, ◌<◌, ◌≤◌, List, [], slice_index_or, Option, IfSome}
use Rattle.model.specs.Bytes.{bytes, Name, OneEvent}
use Rattle.model.specs.Reading.{got}
use Rattle.model.specs.Form.{step, step_line}
use Rattle.model.proofs.Words.{Spans}
use Rattle.names.specs.Held.{PackedNames}
use Rattle.quick_step_line.specs.declared.QuickStep.{QuickStep}

-- a step line stands at a position: from state a by event k, however its name is written, to state b
pub record ReadsStep (s : List ℕ) (at n count : ℕ) (lens highs lows : List ℕ) (a k b next : ℕ) : Type 0 where
  pub source : a < n
  pub event : k < count
  pub target : b < n
  pub line : (es : List Name) → PackedNames es count lens highs lows
      → (w : Name) × OneEvent w (slice_index_or es k []) × (step_line s at ≡ got (step a w b) next)

-- an unknown line may be anything
abbrev pub ReadsQuickly : List ℕ → ℕ → ℕ → ℕ → List ℕ → List ℕ → List ℕ → Option QuickStep → Type 0
ReadsQuickly s at n count lens highs lows r = IfSome r (λ (q : QuickStep). ReadsStep s at n count lens highs lows q.source q.event q.target q.next)

-- how many bytes there are from one position to another, if they are at most 16; otherwise 0
pub record NameSize (from to size : ℕ) : Type 0 where
  pub most : size ≤ 16
  pub ends : 0 < size → from + size ≡ to

-- the bytes around the words of a step line, whose name lies from one position to another and whose byte 10 is at `end`
pub record Framed (s : List ℕ) (at from to end : ℕ) : Type 0 where
  pub opening : Spans s at (bytes "(step ") (at + 6)
  pub before : Spans s (from - 1) (bytes " ") from
  pub behind : Spans s to (bytes " ") (to + 1)
  pub closing : Spans s (end - 1) (bytes ")\n") (end + 1)
