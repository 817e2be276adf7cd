-- What is handed over once a text is past 10, by the rows that are lent.
use Rattle.std.specs.Prelude.{ℕ, ◌≤◌, ◌<◌, ◌≡◌, List, Result, length}
use Rattle.model.specs.declared.Refusal as D
use Rattle.model.specs.Text.{Input}
use Rattle.model.specs.Services.{merge}
use Rattle.rows.specs.declared.Counts.{Counts}
use Rattle.rows.specs.Told.{entry}
use Rattle.rows.specs.Bounded.{NamesInside}
use Rattle.rows.specs.Names.{names_in}
use Rattle.merging.specs.Merges.{HeldPast10}
use Rattle.answers.specs.Answers.{answered}

-- the rows of names have their sizes and bounds, and each name lies in the text
pub record NamesHeld (s : List ℕ) (c : Counts) (ats lens : List ℕ) : Type 0 where
  pub initial : c.initial < c.states
  pub names : (e : ℕ) → e < c.events → entry lens e ≤ 16
  pub lens_size : length lens ≡ 64
  pub ats_size : length ats ≡ 64
  pub inside : NamesInside s ats lens c.events

-- of any text that the rows hold: what Merge answers of it, and what it leaves in the caller's buffer
abbrev pub MergedOver : List ℕ → Counts → List ℕ → List ℕ → List ℕ → List ℕ → List ℕ → List ℕ → List ℕ → List ℕ → Result ℕ D.Refusal → List ℕ → Type 0
MergedOver s c ats lens excited place sizes pre post out r left =
    (v : Input) → HeldPast10 s v c place sizes pre post excited → names_in s ats lens c.events ≡ v.names
    → (answered r ≡ (merge s out).answer) × (left ≡ (merge s out).left)
