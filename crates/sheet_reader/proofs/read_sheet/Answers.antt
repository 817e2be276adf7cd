-- The loop keeps `Lining`. The laws are in `Sheeting`.
use native.Mathlib.Omega.{arith}
use mathlib.Core.Path.{◌≡◌}
use Rattle.model.specs.Reading.{got}
use Rattle.model.specs.Sheet.{count_form}
use Rattle.lexer.proofs.Answers.{figure_missing, figure_got}
use Rattle.sheet_reader.proofs.Sheeting.{lining_start, sheet_long, count_none, count_low, count_high, lining_bad, start_byte, lining_more, lining_rest, lining_end}
use Rattle.sheet_reader.proofs.read_sheet.Goals.{In-Some, then-n-lt1-via-then-n-lt1, then-n-lt1-via-else-n-lt1+then-n-gt-MAX_MACHINES}
use Rattle.sheet_reader.proofs.read_sheet.Goals as goal

counted : (c : In-Some) → count_form c.args.s.now 0 ≡ got c.in-Some.field-0.value c.in-Some.field-0.next
counted c = figure_got _ c.read_count.ensures c.in-Some.is

pub returns-then-s-gt-MAX_TEXT : goal.returns-then-s-gt-MAX_TEXT
returns-then-s-gt-MAX_TEXT c = sheet_long _ _ _ _ c.if-s-gt-MAX_TEXT.true

pub returns-in_default : goal.returns-in_default
returns-in_default c = count_none _ _ _ _ c.if-s-gt-MAX_TEXT.false (figure_missing _ c.read_count.ensures c.in_default.is)

pub returns-then-n-lt1 : goal.returns-then-n-lt1
returns-then-n-lt1 c =
    let e = counted (goal.at.returns-then-n-lt1 c).In-Some in
    elim c.then-n-lt1.branch [
      | then-n-lt1-via-then-n-lt1 w ↦ count_low _ _ _ _ c.if-s-gt-MAX_TEXT.false _ _ e w.if-n-lt1.true
      | then-n-lt1-via-else-n-lt1+then-n-gt-MAX_MACHINES w ↦ count_high _ _ _ _ c.if-s-gt-MAX_TEXT.false _ _ e w.if-n-lt1.false w.if-n-gt-MAX_MACHINES.true
    ]

pub loop-k-init : goal.loop-k-init
loop-k-init c =
    lining_start _ _ _ _ c.requires.no_names c.requires.rows c.if-s-gt-MAX_TEXT.false _ _ (counted (goal.at.loop-k-init c).In-Some) c.if-n-lt1.false c.if-n-gt-MAX_MACHINES.false

pub returns-in_default-read_line : goal.returns-in_default-read_line
returns-in_default-read_line c =
    lining_bad c.loop-k.invariant c.loop-k-test.true c.read_line.ensures c.in_default-read_line.is _ _

pub overflow_cast-sheet : goal.overflow_cast-sheet
overflow_cast-sheet c =
    omega (arith, start_byte c.loop-k.invariant c.loop-k-test.true c.read_line.ensures c.in-Ok.is)

pub loop-k-preserved : goal.loop-k-preserved
loop-k-preserved c =
    lining_more c.loop-k.invariant c.loop-k-test.true c.read_line.ensures c.in-Ok.is

pub returns-then-i-s : goal.returns-then-i-s
returns-then-i-s c = lining_rest c.loop-k.invariant c.loop-k-test.false c.if-i-s.true

pub returns : goal.returns
returns c = lining_end c.loop-k.invariant c.loop-k-test.false c.if-i-s.false
