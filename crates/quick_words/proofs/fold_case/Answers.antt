-- `quick_words::fold_case` meets its contract: the law of `Folding`.
use Rattle.quick_words.proofs.Folding.{folds}
use Rattle.quick_words.proofs.fold_case.Goals as goal

pub returns : goal.returns
returns c = folds c.args.word
