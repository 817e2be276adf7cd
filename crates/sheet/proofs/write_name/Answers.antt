-- `sheet::write_name` meets its contract: the name by itself, or with what stands behind it. The laws are in `Within`.
use native.Mathlib.Omega.{arith}
use Rattle.sheet.proofs.Within.{name_alone, name_further}
use Rattle.sheet.proofs.write_name.Goals as goal

pub returns-then-min-lt-LONGEST_NAME : goal.returns-then-min-lt-LONGEST_NAME
returns-then-min-lt-LONGEST_NAME c =
    name_alone _ _ _ c.requires.3 c.requires.1 c.requires.2 c.write_bytes.ensures

pub returns : goal.returns
returns c =
    let a = c.args in
    name_further a.text.now a.start a.«len» c.requires.3 16 (omega arith)
    (omega arith) c.requires.0 c.write_copied.ensures
