-- `transition_system::check_transition_system` meets its contract: the row of successors is empty, and has a set for each state.
use native.Mathlib.Omega.{arith}
use Rattle.transition_system.proofs.Verdicts.{no_successors}
use Rattle.transition_system.proofs.check_transition_system.Goals as goal

pub check_with-requires : goal.check_with-requires
check_with-requires c = record { bounded = c.requires.bounded; transitions_in_bounds = c.requires.transitions_in_bounds; successors = (no_successors 64, omega arith) }

pub check_with-requires-else-c-le-FEW_STATES : goal.check_with-requires-else-c-le-FEW_STATES
check_with-requires-else-c-le-FEW_STATES c =
    record {
      bounded = c.requires.bounded;
      transitions_in_bounds = c.requires.transitions_in_bounds;
      successors = (no_successors 1024, omega (arith, c.requires.bounded.0.states));
    }
