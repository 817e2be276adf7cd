-- The machines of a text, where the rows tell their moves, run as those of the rows.
use Prim.Native.Nat.{ℕ, ◌<◌}
use mathlib.Core.Path.{◌≡◌, ◌∙◌}
use mathlib.Core.List.{List}
use lib.ListN.{length}
use Rattle.model.specs.Lists.{numbers}
use Rattle.model.specs.TransitionSystem.{TransitionSystem}
use Rattle.model.specs.Machine.{Decomposition, move}
use Rattle.model.proofs.Positions.{length_numbers, at_number}
use Rattle.model.proofs.Together.{SameMoves}
use Rattle.regions.specs.Moves.{move_at, MovesTold}

pub told_moves : {ts : TransitionSystem} {ms : Decomposition} {pre post : List ℕ} {machines : ℕ} → MovesTold ts ms pre post → machines ≡ length ms
    → (e : ℕ) → e < ts.events → SameMoves (move_at pre post) (move ts) (numbers machines) ms e e
told_moves {machines = machines} told counted e l =
    record {
      one_each = length_numbers machines ∙ counted;
      each = λ k n m a b. rw (at_number machines k n a) (told.move k e m b l);
    }
