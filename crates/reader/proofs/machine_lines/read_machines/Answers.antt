-- `reader::read_machines` meets its contract. The invariant: the machine lines so far are read into the rows, and the rest comes to the same.
use Rattle.std.proofs.Common.{refl, sym, ◌∙◌, arith}
use Rattle.lines.proofs.Found.{machine_got, machine_missing}
use Rattle.reader.proofs.Rest.{machine_moves}
use Rattle.reader.proofs.machine_lines.MachineSection.{machines_start, section_none, section_end, section_malformed, section_limit, section_undeclared, section_place, section_more}
use Rattle.reader.proofs.machine_lines.read_machines.Goals as goal

pub loop-i-init : goal.loop-i-init
loop-i-init c = record { so_far = machines_start c.requires.0 c.requires.1; others = refl }

pub returns-in_default-clause-reads_machines : goal.returns-in_default-clause-reads_machines
returns-in_default-clause-reads_machines c =
    section_malformed c.loop-i.invariant.so_far c.loop-i-test.true (machine_missing _ _ _ c.read_machine.ensures c.in_default.is)

pub returns-then-not-within-clause-reads_machines : goal.returns-then-not-within-clause-reads_machines
returns-then-not-within-clause-reads_machines c =
    section_limit c.loop-i.invariant.so_far (machine_got _ _ _ c.read_machine.ensures c.in-Some.is) (sym c.within_limits-within.ensures ∙ c.if-not-within.true)

pub returns-then-not-declared-clause-reads_machines : goal.returns-then-not-declared-clause-reads_machines
returns-then-not-declared-clause-reads_machines c =
    section_undeclared c.loop-i.invariant.so_far (machine_got _ _ _ c.read_machine.ensures c.in-Some.is) (sym c.within_limits-within.ensures ∙ c.if-not-within.false) c.if-not-declared.true

pub loop-i-smaller : goal.loop-i-smaller
loop-i-smaller c = omega (arith, machine_moves _ _ (machine_got _ _ _ c.read_machine.ensures c.in-Some.is).read)

pub loop-i-preserved : goal.loop-i-preserved
loop-i-preserved c =
    let g = machine_got _ _ _ c.read_machine.ensures c.in-Some.is in
    let w = sym c.within_limits-within.ensures ∙ c.if-not-within.false in
    let q = section_place c.loop-i.invariant.so_far g w c.if-not-declared.false c.copy_from_slice.ensures.after (omega arith) in
    record { so_far = section_more c.loop-i.invariant.so_far g w c.if-not-declared.false q; others = rw c.loop-i.invariant.others refl }

pub returns-then-k-eq0-clause-reads_machines : goal.returns-then-k-eq0-clause-reads_machines
returns-then-k-eq0-clause-reads_machines c = section_none c.loop-i.invariant.so_far c.loop-i-test.false c.if-k-eq0.true

pub returns-clause-reads_machines : goal.returns-clause-reads_machines
returns-clause-reads_machines c = section_end c.loop-i.invariant.so_far c.loop-i-test.false c.if-k-eq0.false
