-- What is known of a text once it is read, once it is past 7, past 10, and past 12.
use Rattle.std.specs.Prelude.{ℕ, ◌≡◌, List, [], Result}
use Rattle.std.proofs.Math.Option.{none}
use Rattle.model.specs.declared.Refusal as D
use Rattle.model.specs.Refusal.{Checked, passed, refusal_of}
use Rattle.model.specs.Text.{Input, system, read}
use Rattle.model.specs.Machine.{cover_refusal}
use Rattle.model.specs.Services.{as_far_as7, as_far_as10, as_far_as12}
use Rattle.rows.specs.declared.Tables.{Tables}
use Rattle.rows.specs.Tables.{verdict_refusal}
use Rattle.rows.specs.Told.{Told}
use Rattle.rows.specs.Bounded.{Bounded, NamesInside}
use Rattle.rows.specs.Sizes.{Sized}
use Rattle.transition_system.specs.Sets.{Excitations}
use Rattle.regions.specs.Moves.{MoveRows}
use Rattle.closure.specs.Covers.{CoverTold}
use Rattle.stages.specs.Order.{refusal_to10}

-- the text has passed this check, and the rows hold its value
pub record Held (checked : Checked Input) (s : List ℕ) (p : Tables) : Type 0 where
  pub value : Input
  pub passes : checked ≡ passed value
  pub told : Told s value p
  pub bounds : Bounded p
  pub sized : Sized p
  pub names : NamesInside s p.name_at p.name_len p.counts.events

-- the verdict is that of the check as far as 7; if the text passes, the rows hold its value
pub record ReadAsFarAs7 (s : List ℕ) (r : Result (Unit {0}) D.Refusal) (p : Tables) : Type 0 where
  pub verdict : verdict_refusal r ≡ refusal_of (as_far_as7 s)
  pub held : verdict_refusal r ≡ none → Held (as_far_as7 s) s p

-- the rows of moves and excitation sets that are lent for the check as far as 10: of their full size, with no state in any set
pub record Fresh (pre post excited : List ℕ) : Type 0 where
  pub moves : MoveRows pre post
  pub excitations : Excitations [] excited

-- the text is read, its value is past 10, and the rows tell the moves and places of its machines and the excitation sets
pub record Past10 (s : List ℕ) (p : Tables) (pre post excited : List ℕ) : Type 0 where
  pub held : Held (read s) s p
  pub passes : refusal_to10 (system held.value) held.value.machines ≡ none
  pub cover : CoverTold (system held.value) held.value.machines pre post p.place excited

pub record ReadAsFarAs10 (s : List ℕ) (r : Result (Unit {0}) D.Refusal) (p : Tables) (pre post excited : List ℕ) : Type 0 where
  pub verdict : verdict_refusal r ≡ refusal_of (as_far_as10 s)
  pub past : verdict_refusal r ≡ none → Past10 s p pre post excited

-- the same past 12
pub record Judged (s : List ℕ) (p : Tables) (pre post excited : List ℕ) : Type 0 where
  pub past : Past10 s p pre post excited
  pub covered : cover_refusal (system past.held.value) past.held.value.machines ≡ none

pub record ReadAsFarAs12 (s : List ℕ) (r : Result (Unit {0}) D.Refusal) (p : Tables) (pre post excited : List ℕ) : Type 0 where
  pub verdict : verdict_refusal r ≡ refusal_of (as_far_as12 s)
  pub judged : verdict_refusal r ≡ none → Judged s p pre post excited
