-- Each way out is the first word that is not 0, or that there is none.
use mathlib.Core.Path.{refl}
use native.Mathlib.Omega.{arith}
use lib.Dec.{lit<}
use borrow.Author.Rules.{rules}
use Rattle.state_set.specs.Member.{word_at, state_found}
use Rattle.state_set.proofs.Sets.{blank_0, blank_1, blank_2, blank_3, lowest_at, lowest_missing}
use Rattle.state_set.proofs.lowest.Goals as goal

pub returns-then-a-ne0 : goal.returns-then-a-ne0
unfolding word_at state_found
returns-then-a-ne0 c = lowest_at _ 0 _ _ (lit< tt) refl (search rules) (omega arith) (blank_0 _) c.lowest_in.ensures

pub returns-then-a-ne0-2 : goal.returns-then-a-ne0-2
unfolding word_at state_found
returns-then-a-ne0-2 c = lowest_at _ 1 _ _ (lit< tt) refl (search rules) (omega arith) (blank_1 _ (search rules)) c.lowest_in-then-a-ne0-2.ensures

pub returns-then-a-ne0-3 : goal.returns-then-a-ne0-3
unfolding word_at state_found
returns-then-a-ne0-3 c = lowest_at _ 2 _ _ (lit< tt) refl (search rules) (omega arith) (blank_2 _ (search rules) (search rules)) c.lowest_in-then-a-ne0-3.ensures

pub returns-then-a-ne0-4 : goal.returns-then-a-ne0-4
unfolding word_at state_found
returns-then-a-ne0-4 c = lowest_at _ 3 _ _ (lit< tt) refl (search rules) (omega arith) (blank_3 _ (search rules) (search rules) (search rules)) c.lowest_in-then-a-ne0-4.ensures

pub returns : goal.returns
unfolding state_found
returns c = lowest_missing _ (search rules) (search rules) (search rules) (search rules)
