-- `replies::wrong_words::refusal_said` meets its contract: a law of `Judging`.
use Rattle.replies.proofs.Judging.{numbered}
use Rattle.replies.proofs.wrong_words.refusal_said.Goals as goal

pub returns : goal.returns
returns c = rw (c.then_some.ensures, c.is_refusal.ensures) (numbered c.args.word.now _ c.number_said.ensures c.in-Some.is)
