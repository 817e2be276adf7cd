-- How many names of a text count: none where it is refused.
use Rattle.std.specs.Prelude.{ℕ, Result, Ok, Err}
use Rattle.model.specs.declared.Refusal as D

unfoldable pub known_names : Result (Unit {0}) D.Refusal → ℕ → ℕ
known_names (Err why) events = 0
known_names (Ok _) events = events
