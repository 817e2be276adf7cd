-- One law of `Adding` for each way out.
use mathlib.Core.Path.{◌≡◌, refl, sym, ◌∙◌}
use mathlib.Core.Bool.{true}
use Rattle.model.specs.Board.{good_ends}
use Rattle.sheet_reader.proofs.Adding.{stores_taken, stores_free}
use Rattle.sheet_reader.proofs.moves.store_move.Goals.{Else-not-good_ends}
use Rattle.sheet_reader.proofs.moves.store_move.Goals as goal

-- the ends are places of the machine
ends : (c : Else-not-good_ends) → good_ends c.args.machine.places c.args.from c.args.to ≡ true
ends c = sym c.good_ends.ensures ∙ c.if-not-good_ends.false

pub returns-then-moves-at-lt-PLACE_BOUND : goal.returns-then-moves-at-lt-PLACE_BOUND
returns-then-moves-at-lt-PLACE_BOUND c = stores_taken _ _ _ _ _ _ _ (ends (goal.at.returns-then-moves-at-lt-PLACE_BOUND c).Else-not-good_ends) c.if-moves-at-lt-PLACE_BOUND.true

pub returns : goal.returns
returns c = stores_free _ _ _ _ _ _ _ (ends (goal.at.returns c).Else-not-good_ends) c.if-moves-at-lt-PLACE_BOUND.false _ _ refl refl
