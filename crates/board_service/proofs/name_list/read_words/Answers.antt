-- `board_service::name_list::read_words` meets its contract: one law of `Looking` for each way out.
use Rattle.std.proofs.Common.{refl}
use Rattle.lexer.proofs.Answers.{name_missing, name_got, literal_missing, literal_got}
use Rattle.board_service.proofs.Looking.{reads_missing, reads_open, reads_unknown, reads_known}
use Rattle.board_service.proofs.name_list.read_words.Goals as goal

pub returns-in_err-found : goal.returns-in_err-found
returns-in_err-found c = rw c.from_residual.ensures (reads_missing _ _ (name_missing _ c.in_err-found.ensures refl))

pub returns-in_err-next : goal.returns-in_err-next
returns-in_err-next c =
    rw c.from_residual-in_err-next.ensures (reads_open _ _ (name_got _ c.in_ok-found.ensures refl) (literal_missing _ c.in_err-next.ensures refl))

pub returns-in_err-event : goal.returns-in_err-event
returns-in_err-event c =
    rw c.from_residual-in_err-event.ensures (reads_unknown _ _ (name_got _ c.in_ok-found.ensures refl) (literal_got _ c.in_ok-next.ensures refl) c.in_err-event.ensures)

pub returns : goal.returns
returns c = reads_known _ _ (name_got _ c.in_ok-found.ensures refl) (literal_got _ c.in_ok-next.ensures refl) c.in_ok-event.ensures
