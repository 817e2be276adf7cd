-- The moves of the events on each machine, in two rows: at e * 16 + k the pre-place and the post-place of event e on machine k. No place has a number from 64 on;
-- such an entry says that the event is not on the machine.
use Rattle.std.specs.Prelude.{ℕ, ◌+◌, ◌*◌, ◌<◌, ◌≡◌, cond, List, ltb, length}
use Rattle.std.proofs.Math.Option.{Option, none, some}
use Rattle.model.specs.Lists.{At}
use Rattle.model.specs.TransitionSystem.{TransitionSystem}
use Rattle.model.specs.Product.{Move}
use Rattle.model.specs.Machine.{Machine, Decomposition, move}
use Rattle.rows.specs.Told.{entry}

unfoldable pub move_at : List ℕ → List ℕ → ℕ → ℕ → Option Move
move_at pre post k e =
    cond (ltb (entry pre (e * 16 + k)) 64) (some (record { pre = entry pre (e * 16 + k); post = entry post (e * 16 + k) })) none

-- both rows have an entry for each event and machine
pub record MoveRows (pre post : List ℕ) : Type 0 where
  pub pre_size : length pre ≡ 1024
  pub post_size : length post ≡ 1024

-- the rows tell the move of each event on each of the machines
pub record MovesTold (ts : TransitionSystem) (ms : Decomposition) (pre post : List ℕ) : Type 0 where
  pub rows : MoveRows pre post
  pub move : (k e : ℕ) (m : Machine) → At ms k m → e < ts.events → move_at pre post k e ≡ move ts m e
