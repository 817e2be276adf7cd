-- `replies::reply_asked` meets its contract: its answers are laws of `Replying`.
use Rattle.replies.proofs.Replying.{tells_wrong, unknown, serves, help_called, explain_called}
use Rattle.replies.proofs.reply_asked.Goals as goal

pub returns-in-Some : goal.returns-in-Some
returns-in-Some c = tells_wrong c.args.words.now c.wrong_word.ensures c.in-Some.is

pub returns-in-Unknown : goal.returns-in-Unknown
returns-in-Unknown c = unknown c.args.words.now c.wrong_word.ensures c.in_default.is c.service_asked-asked.ensures c.in-Unknown.is

pub returns-in-Help : goal.returns-in-Help
returns-in-Help c =
    help_called c.args.words.now c.wrong_word.ensures c.in_default.is c.service_asked-asked.ensures
    c.second_word-at.result c.second_word-at.ensures.1 c.in-Help.is c.help_asked.ensures

pub returns-in-Explain : goal.returns-in-Explain
returns-in-Explain c =
    explain_called c.args.words.now c.wrong_word.ensures c.in_default.is c.service_asked-asked.ensures
    c.second_word-at.result c.second_word-at.ensures.1 c.in-Explain.is c.explanation_asked.ensures

pub returns-in_default-asked : goal.returns-in_default-asked
returns-in_default-asked c =
    let d = c.in_default-asked in
    serves c.args.words.now c.wrong_word.ensures c.in_default.is c.service_asked-asked.ensures (d.not-Help, d.not-Explain, d.not-Unknown)
