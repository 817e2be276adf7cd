-- The model's words for what Run answers tell all of it.
use Prim.Native.Nat.{ℕ}
use mathlib.Core.Path.{◌≡◌, refl, ap, ◌∙◌}
use mathlib.Core.List.{List}
use Rattle.model.specs.Services as Services
use Rattle.model.proofs.Cases.{tabled_injective}
use Rattle.product.specs.declared.Outcome.{Outcome}
use Rattle.product.specs.declared.Outcome.TheVariants.{Whole, Blocked, Refused}
use Rattle.product.specs.declared.RunAnswer.{RunAnswer}
use Rattle.product.specs.Answers.{outcome_is, run_answer}

outcome_injective : (a b : Outcome) → outcome_is a ≡ outcome_is b → a ≡ b
unfolding outcome_is
outcome_injective Whole Whole e = refl
outcome_injective (Blocked n m) (Blocked k j) e = cc
outcome_injective (Refused x) (Refused y) e = ap Refused (tabled_injective x y (cc))
outcome_injective Whole (Blocked k j) e = cc
outcome_injective Whole (Refused y) e = cc
outcome_injective (Blocked n m) Whole e = cc
outcome_injective (Blocked n m) (Refused y) e = cc
outcome_injective (Refused x) Whole e = cc
outcome_injective (Refused x) (Blocked k j) e = cc

pub run_answer_injective : (a b : RunAnswer) → run_answer a ≡ run_answer b → a ≡ b
unfolding run_answer
run_answer_injective a b e =
    whole (outcome_injective a.outcome b.outcome (ap (λ (r : Services.RunAnswer). r.outcome) e)) (ap (λ (r : Services.RunAnswer). r.places) e)
  where
    whole : a.outcome ≡ b.outcome → a.places ≡ b.places → a ≡ b
    whole o p = ap (λ (x : Outcome). record { outcome = x; places = a.places }) o ∙ ap (λ (x : List ℕ). record { outcome = b.outcome; places = x }) p
