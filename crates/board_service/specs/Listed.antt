-- A name of a list, looked up in the rows of a sheet.
use Rattle.std.specs.Prelude.{ℕ, Option, Some, None, IfSome, unwrap_or, ◌<◌, ◌≤◌, ◌≡◌, ◌⊎◌, List, T, length}
use Rattle.model.specs.Bytes.{Name, IsName}
use Rattle.model.specs.Reading.{fail, got}
use Rattle.model.specs.Text.{event_number, distinct}
use Rattle.model.specs.Sheet.{name_form}
use Rattle.lexer.specs.Words as Words
use Rattle.names.specs.Held.{PackedNames}
use Rattle.board_service.specs.declared.name_list.EventAt.{EventAt}

-- what looking up answers in rows that hold each name once; none stands for the count, which is the number of no name
pub record LooksUp (count : ℕ) (lens highs lows : List ℕ) (n h l : ℕ) (r : Option ℕ) : Type 0 where
  pub below : IfSome r (λ k. k < count)
  pub number : (ns : List Name) → PackedNames ns count lens highs lows → T (distinct ns) → (e : Name) → IsName e → n ≡ length e → h ≡ Words.high e → l ≡ Words.low e
      → unwrap_or r count ≡ event_number ns e

-- a name stands at a position, `next` is the position after its byte 10, and r is its number in rows that hold each name once
pub record Numbered (t : List ℕ) (at count : ℕ) (lens highs lows : List ℕ) (next r : ℕ) : Type 0 where
  pub number : (ns : List Name) → PackedNames ns count lens highs lows → T (distinct ns) → (w : Name) × (name_form t at ≡ got w next) × (r ≡ event_number ns w)

-- a known name
pub record KnownName (t : List ℕ) (at count : ℕ) (lens highs lows : List ℕ) (e next : ℕ) : Type 0 where
  pub low : e < count
  pub later : at < next
  pub inside : next ≤ length t
  pub numbered : Numbered t at count lens highs lows next e

-- a name that was guessed may be anything
abbrev pub NameGuessed : List ℕ → ℕ → ℕ → List ℕ → List ℕ → List ℕ → Option EventAt → Type 0
NameGuessed t at count lens highs lows None = Unit {0}
NameGuessed t at count lens highs lows (Some k) = KnownName t at count lens highs lows k.event k.next

abbrev pub NameFound : List ℕ → ℕ → ℕ → List ℕ → List ℕ → List ℕ → Option EventAt → Type 0
NameFound t at count lens highs lows None = (name_form t at ≡ fail) ⊎ ((next : ℕ) × Numbered t at count lens highs lows next count)
NameFound t at count lens highs lows (Some k) = KnownName t at count lens highs lows k.event k.next

pub record ReadsName (t : List ℕ) (at count : ℕ) (lens highs lows : List ℕ) (r : Option EventAt) : Type 0 where
  pub found : NameFound t at count lens highs lows r
