-- Each way out clears the lowest digit of the first word that is not 0, or there is none.
use mathlib.Core.Path.{refl, sym, ◌∙◌}
use mathlib.Core.Option.{some-ne-none}
use native.Mathlib.Omega.{arith}
use lib.Dec.{lit<}
use borrow.Author.Rules.{rules}
use Rattle.state_set.specs.Member.{word_at}
use Rattle.state_set.proofs.Sets.{blank_0, blank_1, blank_2, blank_3, without_lowest_at, lowest_missing}
use Rattle.state_set.proofs.without_lowest.Goals as goal

pub returns-then-rest-ne0 : goal.returns-then-rest-ne0
unfolding word_at
returns-then-rest-ne0 c = without_lowest_at _ 0 _ (lit< tt) refl (search rules) (omega arith) (blank_0 _)

pub returns-then-rest-ne0-2 : goal.returns-then-rest-ne0-2
unfolding word_at
returns-then-rest-ne0-2 c = without_lowest_at _ 1 _ (lit< tt) refl (search rules) (omega arith) (blank_1 _ (search rules))

pub returns-then-rest-ne0-3 : goal.returns-then-rest-ne0-3
unfolding word_at
returns-then-rest-ne0-3 c = without_lowest_at _ 2 _ (lit< tt) refl (search rules) (omega arith) (blank_2 _ (search rules) (search rules))

pub returns-then-rest-ne0-4 : goal.returns-then-rest-ne0-4
unfolding word_at
returns-then-rest-ne0-4 c = without_lowest_at _ 3 _ (lit< tt) refl (search rules) (omega arith) (blank_3 _ (search rules) (search rules) (search rules))

pub returns-else-rest-ne0-4 : goal.returns-else-rest-ne0-4
returns-else-rest-ne0-4 c s e i =
    absurd (some-ne-none s (e ∙ sym (lowest_missing _ (search rules) (search rules) (search rules) (search rules))))
