-- `replies::wrong_words::refusal_named` meets its contract: the table has the names in their order. The laws are in `Judging`.
use mathlib.Core.Bool.{true, false}
use mathlib.Core.Path.{◌≡◌, sym, ap}
use borrow.Author.Tests.{tests}
use Rattle.std.proofs.Common.{rules, Some, None}
use Rattle.std.proofs.lemmas.Iterator.{YieldsList-from_slice, IsFirst-from_position}
use Rattle.replies.specs.Replies.{refusal_names}
use Rattle.replies.proofs.Judging.{Is, read_names, found_at, found_nowhere}
use Rattle.replies.proofs.wrong_words.refusal_named.Goals as goal

pub returns-in_err-k : goal.returns-in_err-k
returns-in_err-k c =
    let w = c.args.word.now in
    let e : c.from_residual.result ≡ None = search rules in
    let t : read_names c.iter.result.rest.now ≡ refusal_names = ap read_names c.iter.ensures.rest in
    rw (e, ← t)
    (sym
    (found_nowhere w 1 c.iter.result.rest.now
    (IsFirst-from_position _ _ None (Is w true) (Is w false) c.in_err-k.ensures.ran (YieldsList-from_slice _ cc) (λ x q k. search (rules, tests))
    (λ x q k. search (rules, tests)))))

pub returns : goal.returns
returns c =
    let w = c.args.word.now in
    let t : read_names c.iter.result.rest.now ≡ refusal_names = ap read_names c.iter.ensures.rest in
    rw (← t)
    (sym
    (found_at w 1 c.iter.result.rest.now c.in_ok-k.k
    (IsFirst-from_position _ _ (Some c.in_ok-k.k) (Is w true) (Is w false) c.in_ok-k.ensures.ran (YieldsList-from_slice _ cc) (λ x q k. search (rules, tests))
    (λ x q k. search (rules, tests)))))
