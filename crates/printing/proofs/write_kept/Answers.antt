-- `printing::write_kept` meets its contract: the numbers of the machines kept among those passed are written. The laws are in `Kept`.
use Rattle.printing.proofs.Kept.{Led, keeping_none, keeping_skip, keeping_add, keeping_end, led_space, led_none}
use Rattle.printing.proofs.write_kept.Goals.{Joined-i-at, then-machines-m-eq1, then-i-at, else-i-at, else-machines-m-eq1}
use Rattle.printing.proofs.write_kept.Goals as goal

-- before a number there is a space, if it is not the first
led : (c : Joined-i-at) → Led c.args.machines c.args.at c.args.out.now c.if-i-at.out c.if-i-at.i c.loop-m.m
led c =
    let inv = c.loop-m.invariant in
    elim c.if-i-at.branch [ then-i-at w ↦ rw (w.out-is, w.i-is) (led_space inv w.if-i-at.true w.write_bytes-i.ensures) | else-i-at w ↦ rw (w.out-is, w.i-is) (led_none inv w.if-i-at.false) ]

pub loop-m-init : goal.loop-m-init
loop-m-init c = keeping_none

pub loop-m-preserved : goal.loop-m-preserved
loop-m-preserved c =
    let inv = c.loop-m.invariant in
    elim c.if-machines-m-eq1.branch [
      | then-machines-m-eq1 w ↦
          let p : Led c.args.machines c.args.at c.args.out.now w.if-i-at.out w.if-i-at.i c.loop-m.m =
          elim w.if-i-at.branch [ then-i-at v ↦ rw (v.out-is, v.i-is) (led_space inv v.if-i-at.true v.write_bytes-i.ensures) | else-i-at v ↦ rw (v.out-is, v.i-is) (led_none inv v.if-i-at.false) ] in
          rw (w.out-is, w.i-is) (keeping_add p c.loop-m-test.true w.if-machines-m-eq1.true w.write_numeral-i.ensures)
      | else-machines-m-eq1 w ↦ rw (w.out-is, w.i-is) (keeping_skip inv c.loop-m-test.true w.if-machines-m-eq1.false)
    ]

pub returns : goal.returns
returns c =
    let all = keeping_end c.loop-m.invariant c.loop-m-test.false in
    record { writes = all.0; upper_bound = all.1 }
