-- The transitions of each event as a chain of positions.
use Rattle.std.specs.Prelude.{ℕ, zero, suc, ◌-◌, ◌<◌, ◌≤◌, ◌≡◌, cond, List, eqb, length}
use Rattle.rows.specs.Told.{entry}

-- among j positions from k on the first with the event e; k + j if there is none
unfoldable pub next_in : List ℕ → ℕ → ℕ → ℕ → ℕ
next_in event e k zero = k
next_in event e k (suc j) = cond (eqb (entry event k) e) k (next_in event e (suc k) j)

-- from k on, below n
abbrev pub next_of : List ℕ → ℕ → ℕ → ℕ → ℕ
next_of event n e k = next_in event e k (n - k)

-- the first transition of each event, and after each transition the next of its event
pub record Indexed (event : List ℕ) (n : ℕ) (first next : List ℕ) : Type 0 where
  pub first_size : length first ≡ 64
  pub room : n ≤ length next
  pub starts : (e : ℕ) → e < 64 → entry first e ≡ next_of event n e 0
  pub follows : (k : ℕ) → k < n → entry next k ≡ next_of event n (entry event k) (suc k)

-- a walk along the chain of an event has a beginning and an end
pub record Chained (n events : ℕ) (first next : List ℕ) : Type 0 where
  pub first_size : length first ≡ 64
  pub room : n ≤ length next
  pub begins : (e : ℕ) → e < events → entry first e < n
  pub rises : (k : ℕ) → k < n → k < entry next k
