-- `printing::print_name` meets its contract: the part that `name_in_plan` tells, and the end of the line.
use native.Mathlib.Omega.{arith}
use borrow.Author.Rules.{rules}
use Rattle.writers.proofs.Writing.{writes_append}
use Rattle.printing.proofs.Naming.{part_inside, part_most, name_refused, name_shown}
use Rattle.printing.proofs.print_name.Goals as goal

pub returns-in-Err : goal.returns-in-Err
returns-in-Err c = name_refused c.in-Err.ensures c.print_refusal.ensures

pub slice_bounds-write_bytes-count : goal.slice_bounds-write_bytes-count
slice_bounds-write_bytes-count c = (part_inside c.in-Ok.ensures).0

pub slice_bounds-write_bytes-start : goal.slice_bounds-write_bytes-start
slice_bounds-write_bytes-start c = (part_inside c.in-Ok.ensures).0

pub slice_bounds-write_bytes-end : goal.slice_bounds-write_bytes-end
slice_bounds-write_bytes-end c = (part_inside c.in-Ok.ensures).1

pub write_bytes-a-requires : goal.write_bytes-a-requires
write_bytes-a-requires c = omega (arith, part_most c.in-Ok.ensures)

pub write_bytes-requires : goal.write_bytes-requires
write_bytes-requires c = omega (arith, part_most c.in-Ok.ensures)

pub returns-in-Ok : goal.returns-in-Ok
returns-in-Ok c = name_shown c.in-Ok.ensures (search rules) (writes_append c.write_bytes-a.ensures c.write_bytes.ensures)
