-- The length of a sheet by its rows, with no look at the text: moves event by event, and what stands around them machine by machine.
use Rattle.std.specs.Prelude.{ℕ, zero, suc, ◌+◌, ◌*◌, cond, List, ltb, length}
use Rattle.model.specs.Bytes.{digits}
use Rattle.rows.specs.Told.{entry}

abbrev pub figures_at : List ℕ → List ℕ → ℕ → ℕ
figures_at pre post i = length (digits (entry pre i)) + length (digits (entry post i))

-- on how many of the first n machines event e is
unfoldable pub machines_on : List ℕ → ℕ → ℕ → ℕ
machines_on pre e zero = 0
machines_on pre e (suc n) = machines_on pre e n + cond (ltb (entry pre (e * 16 + n)) 64) 1 0

-- the digits of its moves on them
unfoldable pub figures_on : List ℕ → List ℕ → ℕ → ℕ → ℕ
figures_on pre post e zero = 0
figures_on pre post e (suc n) = figures_on pre post e n + cond (ltb (entry pre (e * 16 + n)) 64) (figures_at pre post (e * 16 + n)) 0

unfoldable pub event_length : ℕ → List ℕ → List ℕ → ℕ → ℕ → ℕ
event_length name pre post e n = machines_on pre e n * (10 + name) + figures_on pre post e n

-- the moves of the first e events on the first n machines
unfoldable pub moves_length : List ℕ → List ℕ → List ℕ → ℕ → ℕ → ℕ
moves_length lens pre post n zero = 0
moves_length lens pre post n (suc e) = moves_length lens pre post n e + event_length (entry lens e) pre post e n

-- what the lines of the first n machines have beside moves
unfoldable pub heads_length : List ℕ → List ℕ → ℕ → ℕ → ℕ
heads_length sizes places initial zero = 0
heads_length sizes places initial (suc n) =
    heads_length sizes places initial n
    + (30 + length (digits n) + length (digits (entry sizes n)) + length (digits (entry places (n * 256 + initial))))
