-- `command_line::event_named` meets its contract: the names passed are others. The laws are in `Declaring`.
use Prim.Native.Nat.{◌+◌, ◌≤◌}
use native.Mathlib.Omega.{arith}
use lib.ListN.{length}
use Rattle.rows.specs.Told.{entry}
use Rattle.rows.proofs.Searches.{upto_start, upto_more}
use Rattle.rows.proofs.Names.{name_inside}
use Rattle.command_line.proofs.Declaring.{by_cut, event_is, event_none}
use Rattle.command_line.proofs.event_named.Goals.{In-loop-e}
use Rattle.command_line.proofs.event_named.Goals as goal

-- the name lies in the text
inside : (c : In-loop-e) → entry c.args.names.at.now c.loop-e.e + entry c.args.names.«len».now c.loop-e.e ≤ length c.args.text.now
inside c = name_inside c.args.text.now c.args.names.at.now c.args.names.«len».now c.requires.inside c.loop-e.e c.loop-e-test.true

pub loop-e-init : goal.loop-e-init
loop-e-init c = upto_start

pub overflow_add-end : goal.overflow_add-end
overflow_add-end c = omega (arith, inside (goal.at.overflow_add-end c).In-loop-e)

pub slice_bounds-same_name-end : goal.slice_bounds-same_name-end
slice_bounds-same_name-end c = omega (arith, inside (goal.at.slice_bounds-same_name-end c).In-loop-e)

pub returns-then-same_name : goal.returns-then-same_name
returns-then-same_name c =
    event_is c.args.text.now c.args.names.at.now c.args.names.«len».now c.args.word.now c.loop-e.invariant
    (by_cut c.args.text.now c.args.names.at.now c.args.names.«len».now c.args.word.now c.loop-e.e c.same_name.ensures c.if-same_name.true)

pub loop-e-preserved : goal.loop-e-preserved
loop-e-preserved c =
    upto_more c.loop-e.invariant c.loop-e-test.true
    (by_cut c.args.text.now c.args.names.at.now c.args.names.«len».now c.args.word.now c.loop-e.e c.same_name.ensures c.if-same_name.false)

pub returns : goal.returns
returns c = event_none c.args.text.now c.args.names.at.now c.args.names.«len».now c.args.word.now c.loop-e.invariant c.loop-e-test.false
