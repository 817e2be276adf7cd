-- What the code answers to what a reader of the model finds.
use Rattle.std.specs.Prelude.{ℕ, ◌+◌, ◌*◌, List, [], ◌∷◌, map, length, take, drop, Option, Some, None}
use Rattle.model.specs.Bytes.{Name, lower}
use Rattle.model.specs.Reading.{Parsed, fail, got}
use Rattle.lexer.specs.declared.FigureAt.{FigureAt}
use Rattle.lexer.specs.declared.PackedName.{PackedName}
use Rattle.lexer.specs.declared.NameAt.{NameAt}

-- what was read and the position after it, by the code's answer
abbrev pub as_word : {A B : Type 0} → (A → ℕ → B) → Parsed A → Option B
as_word f fail = None
as_word f (got a next) = Some (f a next)

abbrev pub as_literal : Parsed (Unit {0}) → Option ℕ
as_literal = as_word (λ _ next. next)

abbrev pub found_figure : ℕ → ℕ → FigureAt
found_figure n next = record { value = n; next = next }

abbrev pub as_figure : Parsed ℕ → Option FigureAt
as_figure = as_word found_figure

-- bytes as a number in base 256, after those of v
abbrev pub packed_from : ℕ → List ℕ → ℕ
packed_from v [] = v
packed_from v (b ∷ w) = packed_from (v * 256 + b) w

abbrev pub packed : List ℕ → ℕ
packed = packed_from 0

-- a name of at most 16 bytes as two numbers, which those of one event share: in small letters its first eight bytes, and the others
abbrev pub high : Name → ℕ
high w = packed (take 8 (map lower w))

abbrev pub low : Name → ℕ
low w = packed (drop 8 (map lower w))

abbrev pub packed_name : Name → PackedName
packed_name w = record { «len» = length w; «high» = high w; «low» = low w }

abbrev pub found_name : Name → ℕ → NameAt
found_name w next = record { name = packed_name w; next = next }

abbrev pub as_name : Parsed Name → Option NameAt
as_name = as_word found_name
