-- One law for each way out. The laws are in `Lining`.
use mathlib.Core.Path.{◌≡◌, sym, ◌∙◌}
use mathlib.Core.Bool.{true}
use Rattle.std.proofs.lemmas.Result.{err_from_is_err_and}
use Rattle.model.specs.Sheet.{line_form}
use Rattle.lexer.proofs.Answers.{literal_missing, literal_got}
use Rattle.sheet_reader.proofs.Lining.{head_missing, closed, head_got, head_test, reads_none, reads_head, reads_bad, reads_open, reads_good}
use Rattle.sheet_reader.proofs.machine_line.read_line.Goals.{Else-not-is_good, In-Some}
use Rattle.sheet_reader.proofs.machine_line.read_line.Goals as goal

headed : (c : In-Some) → line_form c.args.s.now c.args.at ≡ closed c.args.s.now c.in-Some.head
headed c = head_got _ _ c.read_head.ensures c.in-Some.is

tested : (c : Else-not-is_good) → head_test (goal.at.Else-not-is_good c).In-Some.in-Some.head c.args.m ≡ true
tested c = sym c.is_good.ensures ∙ c.if-not-is_good.false

pub returns-in_default : goal.returns-in_default
returns-in_default c = reads_none _ _ _ _ _ (head_missing _ _ c.read_head.ensures c.in_default.is) _ _

pub returns-then-not-is_good : goal.returns-then-not-is_good
returns-then-not-is_good c =
    reads_head _ _ _ _ _ _ (headed (goal.at.returns-then-not-is_good c).In-Some) (sym c.is_good.ensures ∙ c.if-not-is_good.true) _ _

pub returns-in_err-end : goal.returns-in_err-end
returns-in_err-end c =
    let (why, e, same) = err_from_is_err_and c.from_residual.result c.from_residual.ensures.1 in
    rw (e, same) (reads_bad _ _ _ _ _ _ (headed (goal.at.returns-in_err-end c).In-Some) (tested (goal.at.returns-in_err-end c).Else-not-is_good) c.requires.1 c.read_moves.ensures c.in_err-end.was)

pub returns-in_default-read_literal : goal.returns-in_default-read_literal
returns-in_default-read_literal c =
    reads_open _ _ _ _ _ _ (headed (goal.at.returns-in_default-read_literal c).In-Some) (tested (goal.at.returns-in_default-read_literal c).Else-not-is_good) c.requires.1 c.read_moves.ensures c.in_ok-end.was
    (literal_missing _ c.read_literal.ensures c.in_default-read_literal.is)

pub returns : goal.returns
returns c =
    reads_good _ _ _ _ _ _ (headed (goal.at.returns c).In-Some) (tested (goal.at.returns c).Else-not-is_good) c.requires.1 c.read_moves.ensures c.in_ok-end.was _
    (literal_got _ c.read_literal.ensures c.in-Some-read_literal.is)
