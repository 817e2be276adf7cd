-- `replies::wrong_words::wrong_word` meets its contract: each turn passes a word that the service takes. The laws are in `Judging`.
use Rattle.replies.proofs.Judging.{right_start, wrong_here, right_more, left_out, first_wrong, wrong_behind}
use Rattle.replies.proofs.wrong_words.wrong_word.Goals as goal

pub returns-in-Unknown : goal.returns-in-Unknown
returns-in-Unknown c = first_wrong c.args.words.now c.service_asked-asked.ensures c.in-Unknown.is

pub loop-at-init : goal.loop-at-init
loop-at-init c = right_start c.second_word-at.ensures.0 c.second_word-at.ensures.1

pub returns-then-not-takes : goal.returns-then-not-takes
returns-then-not-takes c =
    wrong_behind c.args.words.now c.service_asked-asked.ensures c.in_default.not-Unknown
    (wrong_here c.loop-at.invariant c.loop-at-test.true c.word_end-end.ensures c.takes.ensures c.if-not-takes.true)

pub loop-at-preserved : goal.loop-at-preserved
loop-at-preserved c = right_more c.loop-at.invariant c.loop-at-test.true c.word_end-end.ensures c.takes.ensures c.if-not-takes.false

pub returns : goal.returns
returns c =
    wrong_behind c.args.words.now c.service_asked-asked.ensures c.in_default.not-Unknown
    (rw (c.then_some.ensures, c.least_words.ensures) (left_out c.loop-at.invariant c.loop-at-test.false))
