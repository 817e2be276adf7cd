-- `board_service::running::odd_name` meets its contract: the loop keeps `Seeking`.
use Rattle.board_service.proofs.Seeking.{seeking_odd, seeking_more, seeking_end}
use Rattle.board_service.proofs.running.odd_name.Goals as goal

pub returns-in_default : goal.returns-in_default
returns-in_default c = seeking_odd c.loop-i.invariant c.loop-i-test.true c.in_default.ensures

pub loop-i-preserved : goal.loop-i-preserved
loop-i-preserved c = seeking_more c.loop-i.invariant c.in-Some.ensures

pub returns : goal.returns
returns c = seeking_end c.loop-i.invariant c.loop-i-test.false
