-- Names in rows, and what is found of them.
use Rattle.std.specs.Prelude.{◌≡◌, ℕ, ◌<◌, ◌≤◌, List, map, length, replicate, slice_index_or, Option, IfSome, unwrap_or}
use mathlib.Core.List.{Memᴰ}
use Rattle.model.specs.Bytes.{Name, IsName}
use Rattle.model.specs.Text.{event_number}
use Rattle.lexer.specs.declared.PackedName.{PackedName}
use Rattle.lexer.specs.Words as Words
use Rattle.rows.specs.Rows.{row}
use Rattle.names.specs.declared.Names.{Names}

-- the rows hold these names
pub record PackedNames (es : List Name) (count : ℕ) (lens highs lows : List ℕ) : Type 0 where
  pub counted : count ≡ length es
  pub most : length es ≤ 64
  pub names : (e : Name) → Memᴰ e es → IsName e
  pub lengths : lens ≡ row 64 0 (map length es)
  pub high : highs ≡ row 64 0 (map Words.high es)
  pub low : lows ≡ row 64 0 (map Words.low es)

-- the entry k of the rows has the length n and the numbers h and l
pub record Same (lens highs lows : List ℕ) (n h l k : ℕ) : Type 0 where
  pub high : slice_index_or highs k 0 ≡ h
  pub low : slice_index_or lows k 0 ≡ l
  pub long : slice_index_or lens k 0 ≡ n

-- what looking a name up answers; none stands for the count, which is the number of no name
pub record Finds (count : ℕ) (lens highs lows : List ℕ) (n h l : ℕ) (r : Option ℕ) : Type 0 where
  pub below : IfSome r (λ k. k < count)
  pub number : (es : List Name) → PackedNames es count lens highs lows → (e : Name) → IsName e → n ≡ length e → h ≡ Words.high e → l ≡ Words.low e
      → unwrap_or r count ≡ event_number es e

-- no names, and no hints
abbrev pub no_names : Names
no_names = record { count = 0; «len» = replicate 64 0; high = replicate 64 0; low = replicate 64 0; hints = replicate 1024 0 }

-- the same names with other hints
abbrev pub with_hints : Names → List ℕ → Names
with_hints r hints = record { count = r.count; «len» = r.«len»; high = r.high; low = r.low; hints = hints }

-- entry k
abbrev pub entry : Names → ℕ → PackedName
entry r k = record { «len» = slice_index_or r.«len» k 0; high = slice_index_or r.high k 0; low = slice_index_or r.low k 0 }
