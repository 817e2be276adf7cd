-- From the code's answer back to what the reader found.
use Prim.Native.Nat.{ℕ}
use mathlib.Core.Path.{◌≡◌, refl, ap, sym, ◌∙◌}
use Rattle.std.specs.Prelude.{Option, Some, None}
use Rattle.model.specs.Bytes.{Name}
use Rattle.model.specs.Reading.{Parsed, fail, got}
use Rattle.lexer.specs.Words.{as_word, as_literal, found_figure, as_figure, found_name, as_name, packed_name}
use Rattle.lexer.specs.declared.FigureAt.{FigureAt}
use Rattle.lexer.specs.declared.NameAt.{NameAt}

-- nothing was found
pub word_missing : {A B : Type 0} {r : Option B} (f : A → ℕ → B) (o : Parsed A) → r ≡ as_word f o → r ≡ None → o ≡ fail
word_missing f fail p q = refl
word_missing f (got a n) p q = cc

pub literal_missing : {r : Option ℕ} (o : Parsed (Unit {0})) → r ≡ as_literal o → r ≡ None → o ≡ fail
literal_missing = word_missing (λ _ n. n)

pub figure_missing : {r : Option FigureAt} (o : Parsed ℕ) → r ≡ as_figure o → r ≡ None → o ≡ fail
figure_missing = word_missing found_figure

pub name_missing : {r : Option NameAt} (o : Parsed Name) → r ≡ as_name o → r ≡ None → o ≡ fail
name_missing = word_missing found_name

-- something was found
pub word_got : {A B : Type 0} {r : Option B} {b : B} (f : A → ℕ → B) (o : Parsed A) → r ≡ as_word f o → r ≡ Some b → (a : A) × (n : ℕ) × (o ≡ got a n) × (f a n ≡ b)
word_got f fail p q = cc
word_got f (got a n) p q = (a, n, refl, cc)

pub literal_got : {r : Option ℕ} {n : ℕ} (o : Parsed (Unit {0})) → r ≡ as_literal o → r ≡ Some n → o ≡ got tt n
literal_got o p q = let (a, n, e, h) = word_got (λ _ n. n) o p q in e ∙ ap (got tt) h

pub figure_got : {r : Option FigureAt} {f : FigureAt} (o : Parsed ℕ) → r ≡ as_figure o → r ≡ Some f → o ≡ got f.value f.next
figure_got o p q = let (a, n, e, h) = word_got found_figure o p q in e ∙ (λ i. got (h i).value (h i).next)

-- a name was found, and the answer tells it and the position after it
pub record GotName (o : Parsed Name) (f : NameAt) : Type 0 where
  pub name : Name
  pub read : o ≡ got name f.next
  pub told : f.name ≡ packed_name name

pub name_got : {r : Option NameAt} {f : NameAt} (o : Parsed Name) → r ≡ as_name o → r ≡ Some f → GotName o f
name_got o p q =
    let (e, n, g, h) = word_got found_name o p q in
    record { name = e; read = g ∙ (λ i. got e (h i).next); told = λ i. (sym h i).name }

-- what the answers of readers one after another say
pub ruleset answers = (literal_missing, figure_missing, name_missing, literal_got, figure_got, name_got)
