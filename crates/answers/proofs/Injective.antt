-- The model's words for the answer of a call that lends a list tell all of it.
use mathlib.Core.Path.{◌≡◌, ap, sym}
use Rattle.std.specs.Prelude.{ℕ, Result, Ok, Err}
use Rattle.model.specs.declared.Refusal as D
use Rattle.model.proofs.Cases.{tabled_injective}
use Rattle.model.proofs.Verdicts.{refused_passed, same_refused, same_passed}
use Rattle.answers.specs.Answers.{answered}

pub answered_injective : (a b : Result ℕ D.Refusal) → answered a ≡ answered b → a ≡ b
unfolding answered
answered_injective (Err x) (Err y) e = ap Err (tabled_injective x y (same_refused _ _ e))
answered_injective (Err x) (Ok n) e = absurd (refused_passed _ n e)
answered_injective (Ok n) (Err x) e = absurd (refused_passed _ n (sym e))
answered_injective (Ok m) (Ok n) e = ap Ok (same_passed m n e)
