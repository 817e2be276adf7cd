-- `product::refused` meets its contract.
use mathlib.Core.Path.{refl}
use Rattle.model.specs.Services.{ran_answer}
use Rattle.product.specs.Answers.{outcome_is, run_answer}
use Rattle.product.proofs.refused.Goals as goal

pub returns : goal.returns
unfolding run_answer outcome_is ran_answer
returns c = refl
