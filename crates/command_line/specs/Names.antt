-- The names of a text's events in rows: where each begins, and its length.
use Rattle.std.specs.Prelude.{ℕ, ◌≤◌, List, length}
use Rattle.rows.specs.Bounded.{NamesInside}

-- so many names lie in the text
pub record NameRows (s ats lens : List ℕ) (events : ℕ) : Type 0 where
  pub most : events ≤ 64
  pub at_size : events ≤ length ats
  pub len_size : events ≤ length lens
  pub inside : NamesInside s ats lens events
