-- `writers::write_refusal` meets its contract: seven words, one after another.
use native.Mathlib.Omega.{arith}
use Rattle.model.specs.Services.{written_refusal}
use Rattle.writers.proofs.Writing.{writes_append}
use Rattle.writers.proofs.Refusals.{length_refusal}
use Rattle.writers.proofs.write_refusal.Goals as goal

pub write_bytes-a-requires : goal.write_bytes-a-requires
write_bytes-a-requires c =
    let a = c.args in
    omega (arith, length_refusal a.number a.detail a.second)

pub write_numeral-b-requires : goal.write_numeral-b-requires
write_numeral-b-requires c =
    let a = c.args in
    omega (arith, length_refusal a.number a.detail a.second)

pub write_bytes-c-requires : goal.write_bytes-c-requires
write_bytes-c-requires c =
    let a = c.args in
    omega (arith, length_refusal a.number a.detail a.second)

pub write_numeral-d-requires : goal.write_numeral-d-requires
write_numeral-d-requires c =
    let a = c.args in
    omega (arith, length_refusal a.number a.detail a.second)

pub write_bytes-e-requires : goal.write_bytes-e-requires
write_bytes-e-requires c =
    let a = c.args in
    omega (arith, length_refusal a.number a.detail a.second)

pub write_numeral-f-requires : goal.write_numeral-f-requires
write_numeral-f-requires c =
    let a = c.args in
    omega (arith, length_refusal a.number a.detail a.second)

pub write_bytes-requires : goal.write_bytes-requires
write_bytes-requires c =
    let a = c.args in
    omega (arith, length_refusal a.number a.detail a.second)

pub returns : goal.returns
unfolding written_refusal
returns c =
    writes_append c.write_bytes-a.ensures
    (writes_append c.write_numeral-b.ensures
    (writes_append c.write_bytes-c.ensures
    (writes_append c.write_numeral-d.ensures
    (writes_append c.write_bytes-e.ensures
    (writes_append c.write_numeral-f.ensures c.write_bytes.ensures)))))
