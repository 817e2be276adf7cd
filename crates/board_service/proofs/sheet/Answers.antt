-- `board_service::sheet` meets its contract: one law of `Calling` for each way out.
use Rattle.std.proofs.Common.{◌≡◌, length, arith}
use Rattle.std.proofs.lemmas.Result.{err_from_is_err_and}
use Rattle.board_service.proofs.Calling.{bad_read, good_read, sheet_bad, sheet_short, sheet_written}
use Rattle.board_service.proofs.sheet.Goals as goal

pub returns-in_err-read_sheet : goal.returns-in_err-read_sheet
returns-in_err-read_sheet c =
    let all = sheet_bad _ _ _ (bad_read c.in_err-read_sheet.ensures) in
    let p = err_from_is_err_and c.from_residual.result c.from_residual.ensures.1 in
    record { result_value = rw (p.1, p.2) all.0; out_after = all.1 }

pub returns-then-out-size : goal.returns-then-out-size
returns-then-out-size c =
    let all = sheet_short (good_read c.in_ok-read_sheet.ensures) _ c.if-out-size.true in
    record { result_value = all.0; out_after = all.1 }

pub returns : goal.returns
returns c =
    let all = sheet_written (good_read c.in_ok-read_sheet.ensures) _ _ c.if-out-size.false c.write_bytes.ensures.bytes_left in
    let z : c.write_bytes.result ≡ length c.args.sheet.now = omega (arith, c.write_bytes.ensures.after) in
    record { result_value = rw z all.0; out_after = all.1 }
