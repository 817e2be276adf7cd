-- `command_line::service_said` meets its contract: the names passed are others. The laws are in `Spelling`.
use mathlib.Core.Path.{refl}
use Rattle.command_line.specs.Words.{service_said}
use Rattle.command_line.proofs.Spelling.{named, says, tried_more, says_none}
use Rattle.command_line.proofs.service_said.Goals as goal

pub loop-name-init : goal.loop-name-init
unfolding service_said named
loop-name-init c = record { left = refl }

pub returns-then-eq : goal.returns-then-eq
returns-then-eq c = says c.loop-name.invariant c.loop-name-test.true _ c.if-eq.ensures refl

pub loop-name-preserved : goal.loop-name-preserved
loop-name-preserved c = tried_more c.loop-name.invariant c.loop-name-test.true _ c.if-eq.ensures refl

pub returns : goal.returns
returns c = says_none c.loop-name.invariant c.loop-name-test.false
