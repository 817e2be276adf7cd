-- The words of a command line in one row of bytes, each ended by byte 0, which no word of a command line has. What stands after the last byte 0 is a word too.
use Rattle.std.specs.Prelude.{ℕ, ◌+◌, ◌-◌, ◌<◌, ◌≤◌, ◌≡◌, cond, List, [], ◌∷◌, ◌++◌, eqb, length, take, drop, Some, None}
use Rattle.std.specs.Prelude as Std
use Rattle.std.proofs.Math.Option.{Option, none, some}

-- the first word begins with this byte
unfoldable pub begun_by : ℕ → List (List ℕ) → List (List ℕ)
begun_by b [] = (b ∷ []) ∷ []
begun_by b (w ∷ ws) = (b ∷ w) ∷ ws

unfoldable pub words_in : List ℕ → List (List ℕ)
words_in [] = []
words_in (b ∷ s) = cond (eqb b 0) ([] ∷ words_in s) (begun_by b (words_in s))

-- these words in a row
abbrev pub row_of : List (List ℕ) → List ℕ
row_of [] = []
row_of (w ∷ ws) = w ++ (0 ∷ row_of ws)

-- each word of the row is ended by byte 0
pub record EachEnded (row : List ℕ) : Type 0 where
  pub rebuilt : row_of (words_in row) ≡ row

-- the word that begins at `at` ends before `end`, and the others begin after it
pub record WordCut (s : List ℕ) (at end : ℕ) : Type 0 where
  pub least : at ≤ end
  pub most : end ≤ length s
  pub cut : at < length s → words_in (drop at s) ≡ take (end - at) (drop at s) ∷ words_in (drop (end + 1) s)

-- the word with this number, counted from 1, begins here, and behind it the others
pub record BeginsAt (number : ℕ) (s : List ℕ) (at : ℕ) : Type 0 where
  pub most : at ≤ length s
  pub others : words_in (drop at s) ≡ drop (number - 1) (words_in s)

-- the word of a row that has no other
unfoldable pub only_word : List (List ℕ) → Option (List ℕ)
only_word [] = none
only_word (w ∷ []) = some w
only_word (w ∷ v ∷ ws) = none

-- so many numbers at the beginning of a row
unfoldable pub list_said : Std.Option ℕ → List ℕ → Option (List ℕ)
list_said None row = none
list_said (Some n) row = some (take n row)

-- these numbers stand there
pub record Lists (said : Option (List ℕ)) (r : Std.Option ℕ) (row : List ℕ) : Type 0 where
  pub list : list_said r row ≡ said
  pub within : (n : ℕ) → r ≡ Some n → n ≤ length row
