-- What Steps answers, and the numbers of the records that it writes.
use Rattle.std.specs.Prelude.{ℕ, ◌*◌, ◌≤◌, ◌≡◌, List, Result, Ok, Err, ◌++◌, map, length, drop}
use Rattle.model.specs.declared.Refusal as D
use Rattle.model.specs.Cases.{recorded}
use Rattle.model.specs.TransitionSystem.{Transition}
use Rattle.model.specs.Services.{steps}
use Rattle.listing.specs.Records.{first_records}
use Rattle.answers.specs.Answers.{answered}

-- how many entries an answer says were written
unfoldable pub written_by : Result ℕ D.Refusal → ℕ
written_by (Err why) = 0
written_by (Ok size) = size

-- Steps is answered by r if `room` records are lent, and the numbers are those of the records to be written
pub record Lists (s : List ℕ) (room : ℕ) (numbers : List ℕ) (r : Result ℕ D.Refusal) : Type 0 where
  pub answer : (out : List Transition) → length out ≡ room → answered r ≡ (steps s out).answer
  pub left : (out : List Transition) → length out ≡ room
      → map recorded (first_records numbers (written_by r)) ++ drop (written_by r) out ≡ (steps s out).left
  pub fits : written_by r ≤ room
  pub inside : 3 * written_by r ≤ length numbers
