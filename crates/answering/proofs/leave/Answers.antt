-- `answering::leave` meets its contract, by the service.
use mathlib.Core.Path.{◌∙◌}
use Rattle.printing.proofs.Checking.{check_left, merge_left, quote_left, sheet_left}
use Rattle.answering.proofs.Saying.{asked_as, is_check, check_said, merge_said, quote_said, sheet_said}
use Rattle.answering.proofs.leave.Goals as goal

pub returns-in-Merge : goal.returns-in-Merge
returns-in-Merge c =
    let s = c.args.text.now in
    let out = c.args.out.now in
    let l = c.merge.ensures in
    record {
      fits = merge_left s out c.told-out l.result_value;
      prints = λ ws. merge_said s out c.told-out ws (l.result_value, l.out_after) ∙ asked_as ws s c.in-Merge.is;
    }

pub returns-in-Quote : goal.returns-in-Quote
returns-in-Quote c =
    let s = c.args.text.now in
    let out = c.args.out.now in
    let l = c.quote.ensures in
    record {
      fits = quote_left s out c.told-out l.result_value;
      prints = λ ws. quote_said s out c.told-out ws (l.result_value, l.out_after) ∙ asked_as ws s c.in-Quote.is;
    }

pub returns-in-Sheet : goal.returns-in-Sheet
returns-in-Sheet c =
    let s = c.args.text.now in
    let out = c.args.out.now in
    let l = c.sheet.ensures in
    record {
      fits = sheet_left s out c.told-out (l.result_value, l.out_after);
      prints = λ ws. sheet_said s out c.told-out ws (l.result_value, l.out_after) ∙ asked_as ws s c.in-Sheet.is;
    }

pub returns-in_default : goal.returns-in_default
returns-in_default c =
    let s = c.args.text.now in
    let out = c.args.out.now in
    let l = c.check.ensures in
    let d = c.in_default in
    record {
      fits = check_left s out c.told-out (l.result_value, l.out_after);
      prints = λ ws. check_said s out c.told-out ws (l.result_value, l.out_after) ∙ asked_as ws s (is_check c.requires d.not-Merge d.not-Quote d.not-Sheet);
    }
