-- What Run answers in the model's words, with document 01's number and details for a refusal.
use Rattle.model.specs.Cases.{tabled}
use Rattle.model.specs.Services as Services
use Rattle.product.specs.declared.Outcome.{Outcome}
use Rattle.product.specs.declared.Outcome.TheVariants.{Whole, Blocked, Refused}
use Rattle.product.specs.declared.RunAnswer.{RunAnswer}

-- injective by proofs/Injective
unfoldable pub outcome_is : Outcome → Services.Outcome
outcome_is Whole = Services.whole
outcome_is (Blocked ran machine) = Services.blocked ran machine
outcome_is (Refused why) = Services.refused_by (tabled why)

unfoldable pub run_answer : RunAnswer → Services.RunAnswer
run_answer r = record { outcome = outcome_is r.outcome; places = r.places }
