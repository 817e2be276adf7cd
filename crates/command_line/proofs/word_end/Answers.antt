-- `command_line::word_end` meets its contract: the bytes before the place that is found are not 0. The laws are in `Cutting`.
use mathlib.Core.Path.{◌≡◌}
use borrow.Author.Tests.{tests}
use Rattle.std.proofs.Common.{rules, Some, None}
use Rattle.std.proofs.lemmas.Iterator.{YieldsList-from_slice, IsFirst-from_position}
use Rattle.command_line.proofs.Cutting.{cut_found, cut_rest}
use Rattle.command_line.proofs.word_end.Goals as goal

pub returns-in-Some : goal.returns-in-Some
returns-in-Some c =
    cut_found c.args.words.now c.args.at (search rules) c.in-Some.len
    (IsFirst-from_position _ _ (Some c.in-Some.len) (λ x. x ≡ 0) (λ x. x ≡ 0 → ⊥) c.in-Some.ensures.ran (YieldsList-from_slice _ cc) (λ x q k. search (rules, tests))
    (λ x q k. search (rules, tests)))

pub returns-in-None : goal.returns-in-None
returns-in-None c =
    cut_rest c.args.words.now c.args.at (search rules)
    (IsFirst-from_position _ _ None (λ x. x ≡ 0) (λ x. x ≡ 0 → ⊥) c.in-None.ensures.ran (YieldsList-from_slice _ cc) (λ x q k. search (rules, tests))
    (λ x q k. search (rules, tests)))
