-- The services that leave their answer in the buffer, and what is printed of it.
use Rattle.std.specs.Prelude.{ℕ, ◌≡◌, ◌⊎◌, List}
use Rattle.std.proofs.Math.Option.{map}
use Rattle.model.specs.Refusal.{Checked}
use Rattle.printing.specs.Shown.{FitsBuffer, lent_line}
use Rattle.command_line.specs.declared.Service.{Service}
use Rattle.command_line.specs.declared.Service.TheVariants.{Check, Merge, Quote, Sheet}
use Rattle.command_line.specs.Program.{size_said, answer_by}

-- check, merge, quote or sheet
abbrev pub LeavesBytes : Service → Type 0
LeavesBytes asked = (asked ≡ Check) ⊎ ((asked ≡ Merge) ⊎ ((asked ≡ Quote) ⊎ (asked ≡ Sheet)))

-- with what was left in the buffer, this service is answered, whatever the words say
pub record Leaves (asked : Service) (s : List ℕ) (answer : Checked ℕ) (out : List ℕ) : Type 0 where
  pub fits : FitsBuffer answer
  pub prints : (ws : List (List ℕ)) → map (λ lent. lent_line lent answer out) (size_said 32768 ws) ≡ answer_by asked ws s
