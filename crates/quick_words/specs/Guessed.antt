-- What is verified of a figure that was guessed, and of a name's bytes.
use Rattle.std.specs.Prelude.{◌≡◌, ℕ, ◌+◌, ◌/◌, ◌%◌, ◌≤◌, true, cond, List, map, length, ◌==◌}
use Rattle.model.specs.Bytes.{is_digit, digits, Name, IsName, OneEvent}
use Rattle.model.specs.Reading.{part}
use Rattle.model.proofs.Words.{Spans}
use Rattle.lexer.specs.Words as Words
use Rattle.lexer.proofs.Telling.{EachByte}
use Rattle.quick_words.specs.declared.Figure.{Figure}

-- the figure of x stands at a position, and `next` is the position after it
pub record FigureStands (s : List ℕ) (at x next : ℕ) : Type 0 where
  pub most : x ≤ 999
  pub spans : Spans s at (digits x) next

-- a figure by its bytes: a, and b and c if they are digits too; x, y and z are the values of one, two and three digits
pub data SizedFigure (a b c x y z : ℕ) (f : Figure) : Type 0 where
  one : f.size ≡ 1 → (f.found ≡ true → (is_digit a ≡ true) × (f.value ≡ x)) → SizedFigure a b c x y z f
  two : f.size ≡ 2 → is_digit b ≡ true → (f.found ≡ true → (is_digit a ≡ true) × (f.value ≡ y) × (10 ≤ f.value)) → SizedFigure a b c x y z f
  three : f.size ≡ 3 → is_digit b ≡ true → is_digit c ≡ true → (f.found ≡ true → (is_digit a ≡ true) × (f.value ≡ z) × (100 ≤ f.value))
      → SizedFigure a b c x y z f

-- a figure that was guessed to stand at a position
pub record GuessedFigure (s : List ℕ) (at next : ℕ) (f : Figure) : Type 0 where
  pub least : 1 ≤ f.size
  pub most : f.size ≤ 3
  pub stands : f.found ≡ true → FigureStands s at f.value next

-- a byte with bit 5 set where bit 6 is: A to Z come to a to z, and no byte but a name's comes to one of a name
unfoldable pub fold : ℕ → ℕ
fold b = cond (b / 32 % 4 == 2) (b + 32) b

-- each of the eight bytes of x folded
pub record Folds (x r : ℕ) : Type 0 where
  pub eight : (w : List ℕ) → EachByte w → length w ≡ 8 → x ≡ Words.packed w → r ≡ Words.packed (map fold w)

-- a name with these numbers is one event with the `size` bytes at a position
pub record Packs (s : List ℕ) (at size h l : ℕ) : Type 0 where
  pub one : (e : Name) → IsName e → length e ≡ size → Words.high e ≡ h → Words.low e ≡ l → OneEvent (part s at size) e
