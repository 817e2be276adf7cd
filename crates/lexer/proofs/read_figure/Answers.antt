-- `lexer::read_figure` meets its contract: each way out is a law of `Words` about the digits so far.
use Prim.Native.Nat.{◌+◌}
use native.Mathlib.Omega.{arith}
use mathlib.Core.Path.{refl}
use Rattle.model.specs.Bytes.{is_digit}
use Rattle.lexer.proofs.Runs.{Passes, passing, failing}
use Rattle.lexer.proofs.Words.{figure_none, figure_1, figure_zero, Two, figure_2, figure_3, figure_long}
use Rattle.lexer.proofs.read_figure.Goals.{Else-first-eq48, Else-not-is_digit, Else-not-is_digit-2, Else-not-is_digit-3}
use Rattle.lexer.proofs.read_figure.Goals as goal

first : (c : Else-not-is_digit) → Passes is_digit c.args.s.now c.args.at
unfolding is_digit
first c = passing c.is_digit.ensures c.byte_at-first.ensures refl c.if-not-is_digit.false

second : (c : Else-not-is_digit-2) → Passes is_digit c.args.s.now (c.args.at + 1)
unfolding is_digit
second c = passing c.is_digit-2.ensures c.byte_at-second.ensures refl c.if-not-is_digit-2.false

third : (c : Else-not-is_digit-3) → Passes is_digit c.args.s.now (c.args.at + 2)
unfolding is_digit
third c = passing c.is_digit-3.ensures c.byte_at-third.ensures refl c.if-not-is_digit-3.false

two : (c : Else-first-eq48) → Two c.args.s.now c.args.at
two c = record { d0 = first (goal.at.Else-first-eq48 c).Else-not-is_digit; d1 = second (goal.at.Else-first-eq48 c).Else-not-is_digit-2; no_zero = λ q. omega arith }

pub returns-then-not-is_digit : goal.returns-then-not-is_digit
returns-then-not-is_digit c =
    figure_none c.args.s.now c.args.at
    (failing c.is_digit.ensures c.byte_at-first.ensures c.if-not-is_digit.true)

pub overflow_add-at : goal.overflow_add-at
overflow_add-at c = omega (arith, (first (goal.at.overflow_add-at c).Else-not-is_digit).within)

pub overflow_add-result : goal.overflow_add-result
overflow_add-result c = omega (arith, (first (goal.at.overflow_add-result c).Else-not-is_digit).within)

pub returns-then-not-is_digit-2 : goal.returns-then-not-is_digit-2
returns-then-not-is_digit-2 c = figure_1 (first (goal.at.returns-then-not-is_digit-2 c).Else-not-is_digit) (failing c.is_digit-2.ensures c.byte_at-second.ensures c.if-not-is_digit-2.true) (cc)

pub returns-then-first-eq48 : goal.returns-then-first-eq48
returns-then-first-eq48 c = figure_zero (first (goal.at.returns-then-first-eq48 c).Else-not-is_digit) (second (goal.at.returns-then-first-eq48 c).Else-not-is_digit-2) (omega arith)

pub overflow_add-at-2 : goal.overflow_add-at-2
overflow_add-at-2 c = omega (arith, (second (goal.at.overflow_add-at-2 c).Else-not-is_digit-2).within)

pub overflow_add-result-then-not-is_digit-3 : goal.overflow_add-result-then-not-is_digit-3
overflow_add-result-then-not-is_digit-3 c = omega (arith, (second (goal.at.overflow_add-result-then-not-is_digit-3 c).Else-not-is_digit-2).within)

pub returns-then-not-is_digit-3 : goal.returns-then-not-is_digit-3
returns-then-not-is_digit-3 c = figure_2 (two (goal.at.returns-then-not-is_digit-3 c).Else-first-eq48) (failing c.is_digit-3.ensures c.byte_at-third.ensures c.if-not-is_digit-3.true) (cc)

pub overflow_add-at-3 : goal.overflow_add-at-3
overflow_add-at-3 c = omega (arith, (third c).within)

pub overflow_add-result-then-not-is_digit-4-2 : goal.overflow_add-result-then-not-is_digit-4-2
overflow_add-result-then-not-is_digit-4-2 c = omega (arith, (third (goal.at.overflow_add-result-then-not-is_digit-4-2 c).Else-not-is_digit-3).within)

pub returns-then-not-is_digit-4 : goal.returns-then-not-is_digit-4
returns-then-not-is_digit-4 c =
    figure_3 (two (goal.at.returns-then-not-is_digit-4 c).Else-first-eq48) (third (goal.at.returns-then-not-is_digit-4 c).Else-not-is_digit-3)
    (failing c.is_digit-4.ensures c.byte_at.ensures c.if-not-is_digit-4.true) (cc)

pub returns : goal.returns
unfolding is_digit
returns c = figure_long (two (goal.at.returns c).Else-first-eq48) (third (goal.at.returns c).Else-not-is_digit-3) (passing c.is_digit-4.ensures c.byte_at.ensures refl c.if-not-is_digit-4.false)
