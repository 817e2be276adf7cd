-- What Thin answers in the model's words, with document 01's number and details for a refusal.
use Rattle.std.specs.Prelude.{ℕ, Result, Ok, Err}
use Rattle.model.specs.declared.Refusal as D
use Rattle.model.specs.Refusal.{Checked, refused, passed}
use Rattle.model.specs.Cases.{tabled}
use Rattle.model.specs.Services as Services
use Rattle.irredundant.specs.declared.Kept.{Kept}
use Rattle.irredundant.specs.Kept.{set_number}

-- What Thin answers, the kept machines as a number: bit i is machine i (irredundant, SetNumber). Injective by proofs/Injective.
unfoldable pub thinned : Result Kept D.Refusal → Checked (ℕ × ℕ)
thinned (Err why) = refused (tabled why)
thinned (Ok k) = passed (k.machines, k.size)

unfoldable pub numbered_set : Checked Services.Kept → Checked (ℕ × ℕ)
numbered_set (refused r) = refused r
numbered_set (passed k) = passed (set_number k.marks, k.size)
