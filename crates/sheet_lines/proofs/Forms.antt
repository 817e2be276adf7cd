-- A move by the words that the code reads, each figure with the space before it.
use Prim.Native.Nat.{ℕ}
use mathlib.Core.Path.{◌≡◌, refl}
use mathlib.Core.List.{List}
use Rattle.model.specs.Bytes.{bytes, Name}
use Rattle.model.specs.Reading.{Parsed, got, after, lit_bytes, figure, name}
use Rattle.model.specs.Form.{spaced_figure}
use Rattle.model.specs.Sheet.{NamedMove, move_form}
use Rattle.lexer.proofs.Joining.{after_same, joined}

module _ (s : List ℕ) where
  abbrev end : Name → ℕ → ℕ → ℕ → Parsed NamedMove
  end e q r n = after (lit_bytes (bytes ")") s n) (λ _ next. got (record { event = e; pre = q; post = r }) next)

  pub move_words : (at : ℕ) → move_form s at
      ≡ after (lit_bytes (bytes " (move ") s at) (λ _ n. after (name s n) (λ e m. after (spaced_figure s m) (λ q k. after (spaced_figure s k) (λ r l. end e q r l))))
  unfolding move_form spaced_figure
  move_words at =
      after_same (lit_bytes (bytes " (move ") s at) λ _ n.
      after_same (name s n) λ e m.
      joined figure s m λ q k.
      joined figure s k λ r l.
      refl
