-- What passing 1 to 3 leaves of the rows: counts and names within their bounds, and no state or event of a transition that is not declared.
use Rattle.std.specs.Prelude.{ℕ, ◌+◌, ◌≤◌, ◌<◌, List, length}
use Rattle.rows.specs.declared.Tables.{Tables}
use Rattle.rows.specs.Told.{entry}

pub record Bounded (p : Tables) : Type 0 where
  pub states : p.counts.states ≤ 256
  pub initial : p.counts.initial < p.counts.states
  pub events : p.counts.events ≤ 64
  pub names : (e : ℕ) → e < p.counts.events → entry p.name_len e ≤ 16
  pub transitions : p.counts.transitions ≤ 1024
  pub source : (k : ℕ) → k < p.counts.transitions → entry p.source k < p.counts.states
  pub event : (k : ℕ) → k < p.counts.transitions → entry p.event k < p.counts.events
  pub target : (k : ℕ) → k < p.counts.transitions → entry p.target k < p.counts.states
  pub machines : p.counts.machines ≤ 16
  pub sizes : (k : ℕ) → k < p.counts.machines → entry p.sizes k ≤ 64

-- each of n names, by its place and its length, lies in the text
unfoldable pub NamesInside : List ℕ → List ℕ → List ℕ → ℕ → Type 0
NamesInside s ats lens n = (e : ℕ) → e < n → entry ats e + entry lens e ≤ length s
