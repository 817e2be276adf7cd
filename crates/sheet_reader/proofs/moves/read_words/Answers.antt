-- One law of `Moving` for each way out.
use mathlib.Core.Path.{ap}
use Rattle.std.specs.Prelude.{is_ok}
use Rattle.std.proofs.lemmas.Result.{err_from_is_err_and}
use Rattle.sheet_reader.proofs.Moving.{GotMove, move_missing, move_got, words_missing, words_bad, words_stored}
use Rattle.sheet_reader.proofs.moves.read_words.Goals.{In-Some}
use Rattle.sheet_reader.proofs.moves.read_words.Goals as goal

-- the move that is read
item : (c : In-Some) → GotMove c.args.s.now c.args.at c.in-Some.x
item c = move_got _ _ c.read_move.ensures c.in-Some.is

pub returns-in_default : goal.returns-in_default
returns-in_default c = words_missing c.requires (move_missing _ c.read_move.ensures c.in_default.is)

pub returns-in_err-add_move : goal.returns-in_err-add_move
returns-in_err-add_move c =
    let p = err_from_is_err_and c.from_residual.result c.from_residual.ensures.1 in
    rw (p.1) (words_bad (item (goal.at.returns-in_err-add_move c).In-Some) c.add_move.ensures.adds_move c.add_move.ensures.count_bound (ap is_ok c.in_err-add_move.was))

pub returns : goal.returns
returns c = words_stored (item (goal.at.returns c).In-Some) c.add_move.ensures.adds_move c.add_move.ensures.count_bound (ap is_ok c.in_ok-add_move.was)
