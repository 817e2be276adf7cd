-- `sheet::write_head` meets its contract: seven words, one after another.
use native.Mathlib.Omega.{arith}
use Rattle.writers.proofs.Writing.{writes_append}
use Rattle.writers.proofs.Figures.{length_same, writes_same}
use Rattle.sheet.specs.Written.{head_bytes}
use Rattle.sheet.proofs.Parts.{length_head}
use Rattle.sheet.proofs.write_head.Goals as goal

pub write_bytes-a-requires : goal.write_bytes-a-requires
write_bytes-a-requires c =
    let a = c.args in
    omega (arith, length_head a.m a.size a.start)

pub write_figure-b-requires : goal.write_figure-b-requires
write_figure-b-requires c =
    let a = c.args in
    (omega arith, omega (arith, length_head a.m a.size a.start))

pub write_bytes-c-requires : goal.write_bytes-c-requires
write_bytes-c-requires c =
    let a = c.args in
    omega (arith, length_head a.m a.size a.start)

pub write_figure-d-requires : goal.write_figure-d-requires
write_figure-d-requires c =
    let a = c.args in
    (omega arith, omega (arith, length_head a.m a.size a.start))

pub write_bytes-e-requires : goal.write_bytes-e-requires
write_bytes-e-requires c =
    let a = c.args in
    omega (arith, length_head a.m a.size a.start)

pub write_figure-f-requires : goal.write_figure-f-requires
write_figure-f-requires c =
    let a = c.args in
    (omega arith, omega (arith, length_head a.m a.size a.start, length_same c.from.ensures))

pub write_bytes-requires : goal.write_bytes-requires
write_bytes-requires c =
    let a = c.args in
    omega (
      arith,
      c.requires.2,
      length_head a.m a.size
          a.start,
      length_same c.from.ensures,
    )

pub returns : goal.returns
unfolding head_bytes
returns c =
    writes_append c.write_bytes-a.ensures
    (writes_append c.write_figure-b.ensures
    (writes_append c.write_bytes-c.ensures
    (writes_append c.write_figure-d.ensures
    (writes_append c.write_bytes-e.ensures
    (writes_append (writes_same c.from.ensures c.write_figure-f.ensures) c.write_bytes.ensures)))))
