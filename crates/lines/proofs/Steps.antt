-- A step line by the words that the code reads, each with the space before it.
use Prim.Native.Nat.{ℕ}
use mathlib.Core.Path.{◌≡◌, refl}
use mathlib.Core.List.{List}
use Rattle.model.specs.Bytes.{bytes, Name}
use Rattle.model.specs.Reading.{Parsed, got, after, lit_bytes, figure, name}
use Rattle.model.specs.Form.{Line, step, step_line, spaced_name, spaced_figure}
use Rattle.lexer.proofs.Joining.{after_same, joined}

module _ (s : List ℕ) where
  abbrev end : ℕ → Name → ℕ → ℕ → Parsed Line
  end a e b n = after (lit_bytes (bytes ")\n") s n) (λ _ next. got (step a e b) next)

  abbrev target : ℕ → Name → ℕ → Parsed Line
  target a e n = after (spaced_figure s n) (λ b m. end a e b m)

  abbrev event : ℕ → ℕ → Parsed Line
  event a n = after (spaced_name s n) (λ e m. target a e m)

  pub step_words : (at : ℕ) → step_line s at ≡ after (lit_bytes (bytes "(step ") s at) (λ _ n. after (figure s n) (λ a m. event a m))
  unfolding step_line spaced_name spaced_figure
  step_words at =
      after_same (lit_bytes (bytes "(step ") s at) λ _ n.
      after_same (figure s n) λ a m.
      joined name s m λ e k.
      joined figure s k λ b l.
      refl
