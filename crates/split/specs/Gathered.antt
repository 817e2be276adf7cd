-- The words of the command line in their row. What `Env::arg` puts into a buffer is not known but for its length, so these are some words, as many as there are.
use Rattle.std.specs.Prelude.{ℕ, ◌-◌, ◌<◌, ◌≤◌, ◌≡◌, List, length, take, Option, Some, None}
use Rattle.command_line.specs.WordRow.{row_of}

-- the first n bytes are all words but word 0
pub record GatheredWords (words n : ℕ) (row : List ℕ) : Type 0 where
  pub ws : List (List ℕ)
  pub counted : length ws ≡ words - 1
  pub lie : take n row ≡ row_of ws

-- so many of them have no room
pub record NoRoom (words : ℕ) (row : List ℕ) : Type 0 where
  pub ws : List (List ℕ)
  pub counted : length ws ≤ words - 1
  pub longer : length row < length (row_of ws)

pub record Gathers (words : ℕ) (r : Option ℕ) (row : List ℕ) : Type 0 where
  pub within : (n : ℕ) → r ≡ Some n → n ≤ length row
  pub gathered : (n : ℕ) → r ≡ Some n → GatheredWords words n row
  pub no_room : r ≡ None → NoRoom words row
