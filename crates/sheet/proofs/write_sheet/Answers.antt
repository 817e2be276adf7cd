-- `sheet::write_sheet` meets its contract: the first line, then a line for each machine. The laws are in `Lining`.
use native.Mathlib.Omega.{arith}
use mathlib.Core.Path.{ap, ◌∙◌}
use lib.Seq.{sets}
use Rattle.model.specs.Sheet.{written_count}
use Rattle.model.specs.Bytes.{bytes}
use Rattle.rows.specs.declared.Tables.{Tables}
use Rattle.writers.specs.Written.{Writes}
use Rattle.writers.proofs.Writing.{writes_append, writes_length}
use Rattle.sheet.specs.Rows.{sheet_rows}
use Rattle.sheet.proofs.Within.{Room, room_first, room_second, room_third, all_three}
use Rattle.sheet.proofs.Lining.{title_within, head_of, moves_of, lined_none, lined_add, lined_end, line_room}
use Rattle.sheet.proofs.Lengths.{sheet_same}
use Rattle.sheet.proofs.write_sheet.Goals.{After-write_bytes-i, In-loop-m, Start}
use Rattle.sheet.proofs.write_sheet.Goals as goal

-- the rows that the function was given
abbrev rows : Start → Tables
rows g = let a = g.args in sheet_rows a.plan.now.counts a.plan.now.name_at a.plan.now.name_len a.plan.now.sizes a.plan.now.place

-- what it was given, as the loop begins
abbrev given : (c : After-write_bytes-i) → Start
given c = (goal.at.After-write_bytes-i c).Start

-- the first line
titled : (c : After-write_bytes-i)
    → Writes (written_count (given c).args.plan.now.counts.machines) 0 (given c).args.out.now c.write_bytes-i.result c.write_bytes-i.new.out
unfolding written_count
titled c = writes_append c.write_bytes-a.ensures (writes_append c.write_figure-b.ensures c.write_bytes-i.ensures)

-- the line of a machine has room
room : (c : In-loop-m)
    → let g = given (goal.at.In-loop-m c).After-write_bytes-i in
    let m = c.loop-m.m in
    Room c.loop-m.i g.args.size c.loop-m.out (head_of (rows g) m)
    (moves_of g.args.text.now (rows g) g.args.moves.now.pre g.args.moves.now.post m) (bytes ")\n")
room c =
    line_room _ (rows (given (goal.at.In-loop-m c).After-write_bytes-i)) _ _ (given (goal.at.In-loop-m c).After-write_bytes-i).requires.size_value.0 (given (goal.at.In-loop-m c).After-write_bytes-i).requires.size_value.1 (titled (goal.at.In-loop-m c).After-write_bytes-i) c.loop-m.invariant c.loop-m-test.true

pub write_bytes-a-requires : goal.write_bytes-a-requires
write_bytes-a-requires c =
    let w = title_within c.args.text.now (rows (goal.at.write_bytes-a-requires c).Start) c.args.moves.now.pre c.args.moves.now.post in
    omega (arith, c.requires.size_value.0, c.requires.size_value.1)

pub write_figure-b-requires : goal.write_figure-b-requires
write_figure-b-requires c =
    let w = title_within c.args.text.now (rows (goal.at.write_figure-b-requires c).Start) c.args.moves.now.pre c.args.moves.now.post in
    let a = c.write_bytes-a.ensures in
    (omega (arith, c.requires.sheet_ready.0.machines), omega (arith, c.requires.size_value.0, c.requires.size_value.1, a.after, writes_length a))

pub write_bytes-i-requires : goal.write_bytes-i-requires
write_bytes-i-requires c =
    let w = title_within c.args.text.now (rows (goal.at.write_bytes-i-requires c).Start) c.args.moves.now.pre c.args.moves.now.post in
    let a = c.write_bytes-a.ensures in
    let b = c.write_figure-b.ensures in
    omega (arith, c.requires.size_value.0, c.requires.size_value.1, a.after, writes_length a, b.after, writes_length b)

pub loop-m-init : goal.loop-m-init
loop-m-init c = lined_none

pub write_head-head-requires : goal.write_head-head-requires
write_head-head-requires c =
    let b = c.requires.sheet_ready.0 in (
      omega (arith, c.loop-m-test.true, b.machines),
      omega (
        arith,
        b.place_counts c.loop-m.m c.loop-m-test.true,
      ),
      room_first (room (goal.at.write_head-head-requires c).In-loop-m),
    )

pub write_moves-end-requires : goal.write_moves-end-requires
write_moves-end-requires c =
    let p = c.requires.sheet_ready in
    record { m_bound = (omega (arith, c.loop-m-test.true, p.0.machines), p.0); inside = p.3; events_bound = room_second (room (goal.at.write_moves-end-requires c).In-loop-m) c.write_head-head.ensures }

pub write_bytes-i-requires-in-loop-m : goal.write_bytes-i-requires-in-loop-m
write_bytes-i-requires-in-loop-m c =
    room_third (room (goal.at.write_bytes-i-requires-in-loop-m c).In-loop-m) c.write_head-head.ensures c.write_moves-end.ensures

pub loop-m-preserved : goal.loop-m-preserved
loop-m-preserved c =
    lined_add c.loop-m.invariant
    c.loop-m-test.true
    (all_three (room (goal.at.loop-m-preserved c).In-loop-m) c.write_head-head.ensures c.write_moves-end.ensures c.write_bytes-i-in-loop-m.ensures)

pub returns : goal.returns
returns c =
    λ sources events targets duplicates.
    let a = (given (goal.at.returns c).After-write_bytes-i).args in
    lined_end _ (rows (given (goal.at.returns c).After-write_bytes-i)) _ _ (given (goal.at.returns c).After-write_bytes-i).requires.size_value.0 (given (goal.at.returns c).After-write_bytes-i).requires.size_value.1 (titled (goal.at.returns c).After-write_bytes-i) c.loop-m.invariant c.loop-m-test.false
    ∙ ap (sets a.out.now 0)
    (sheet_same a.text.now a.plan.now.counts a.plan.now.name_at a.plan.now.name_len a.plan.now.sizes a.plan.now.place a.moves.now.pre a.moves.now.post sources events targets duplicates)
