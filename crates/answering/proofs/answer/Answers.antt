-- `answering::answer` meets its contract: the first word asks for the service, and the others lie behind it.
use Rattle.command_line.specs.WordRow.{words_in}
use Rattle.command_line.proofs.Cutting.{words_from}
use Rattle.command_line.proofs.Ending.{ended_part}
use Rattle.answering.proofs.Saying.{shows_answer, answered}
use Rattle.answering.proofs.answer.Goals as goal

pub answer_by-requires : goal.answer_by-requires
answer_by-requires c = ended_part _ _ c.requires

pub returns : goal.returns
returns c =
    let a = c.args in
    shows_answer
    (answered (words_in a.words.now) a.text.now c.service_asked-asked.ensures
    (words_from a.words.now c.second_word-at.result
    c.second_word-at.ensures.1))
    c.answer_by.ensures
