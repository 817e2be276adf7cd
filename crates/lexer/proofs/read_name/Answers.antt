-- `lexer::read_name` meets its contract: each way out is a law of `Words` about the two runs of at most eight name bytes.
use mathlib.Core.Path.{refl}
use Rattle.model.specs.Bytes.{is_digit, is_capital, is_letter, is_name_byte}
use Rattle.lexer.proofs.Runs.{Passes, passing, failing}
use Rattle.lexer.proofs.Packing.{Halves}
use Rattle.lexer.proofs.Words.{name_none, name_long, name_16, name_short}
use Rattle.lexer.proofs.read_name.Goals.{After-pack_run-second, Else-not-is_letter, else-len-eq16-via-then-len-eq16+else-is_name_byte, else-len-eq16-via-else-len-eq16}
use Rattle.lexer.proofs.read_name.Goals as goal

letter : (c : Else-not-is_letter) → Passes is_letter c.args.s.now c.args.at
unfolding is_capital is_letter
letter c = passing c.is_letter.ensures c.byte_at.ensures refl c.if-not-is_letter.false

halves : (c : After-pack_run-second) → Halves c.args.s.now c.args.at
    c.pack_run-first.result.next c.pack_run-second.result.next c.pack_run-first.result.value c.pack_run-second.result.value
halves c =
    record {
      first = c.pack_run-first.ensures.next_value;
      second = c.pack_run-second.ensures.next_value;
      high_is = c.pack_run-first.ensures.value_value;
      low_is = c.pack_run-second.ensures.value_value;
    }

pub returns-then-not-is_letter : goal.returns-then-not-is_letter
returns-then-not-is_letter c =
    name_none c.args.s.now c.args.at
    (failing c.is_letter.ensures c.byte_at.ensures c.if-not-is_letter.true)

pub returns-then-is_name_byte : goal.returns-then-is_name_byte
unfolding is_digit is_capital is_letter is_name_byte
returns-then-is_name_byte c =
    name_long (halves (goal.at.returns-then-is_name_byte c).After-pack_run-second)
    (passing c.is_name_byte.ensures c.byte_at-then-len-eq16.ensures refl c.if-is_name_byte.true)

pub returns : goal.returns
returns c =
    let h = halves (goal.at.returns c).After-pack_run-second in
    let l = letter (goal.at.returns c).Else-not-is_letter in
    elim c.else-len-eq16.branch [
      | else-len-eq16-via-then-len-eq16+else-is_name_byte w ↦ name_16 h l (failing w.is_name_byte.ensures w.byte_at-then-len-eq16.ensures w.if-is_name_byte.false)
      | else-len-eq16-via-else-len-eq16 w ↦ name_short h l w.if-len-eq16.false
    ]
