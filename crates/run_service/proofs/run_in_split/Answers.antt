-- `run_service::run_in_split` meets its contract: both answers are laws of `Running` at what the calls have said.
use native.Mathlib.Omega.{arith}
use Rattle.stages.proofs.Stages.{refused_text, past_text}
use Rattle.run_service.proofs.Running.{run_refused, runnable, ran}
use Rattle.run_service.proofs.run_in_split.Goals as goal

pub returns-in-Err : goal.returns-in-Err
returns-in-Err c = run_refused _ _ _ (refused_text c.requires.1 c.in-Err.is) c.refused.ensures

pub places_of-start-requires : goal.places_of-start-requires
places_of-start-requires c =
    let b = (past_text c.requires.1 c.in_default.is).past.held.bounds in
    (omega (arith, b.initial, b.states), b.machines)

pub run_events-requires : goal.run_events-requires
run_events-requires c = runnable (past_text c.requires.1 c.in_default.is) c.places_of-start.ensures

pub returns : goal.returns
returns c = ran (past_text c.requires.1 c.in_default.is) c.places_of-start.ensures _ c.run_events.ensures
