-- The types of the code in the model's words. Each is told whole (proofs/Cases: tabled_injective, records_injective).
-- Believed: all of it.
use Rattle.model.specs.declared.Refusal.TheVariants as C
use Rattle.model.specs.declared.Refusal as D
use Rattle.model.specs.declared.Transition as T
use Rattle.model.specs.Refusal.{Refusal, refuse}
use Rattle.model.specs.TransitionSystem.{Transition}

-- the number and the details that the table of documents 01 and 02 gives each refusal
unfoldable pub tabled : D.Refusal → Refusal
tabled (C.Malformed line) = refuse 1 line 0
tabled (C.LimitExceeded line) = refuse 2 line 0
tabled (C.Undeclared line) = refuse 3 line 0
tabled (C.SelfLoop line) = refuse 4 line 0
tabled (C.Nondeterministic line earlier) = refuse 5 line earlier
tabled (C.UnusedEvent event) = refuse 6 event 0
tabled (C.Unreachable state) = refuse 7 state 0
tabled (C.DuplicateState machine state) = refuse 8 machine state
tabled (C.UncoveredState machine state) = refuse 9 machine state
tabled (C.NotARegion machine event) = refuse 10 machine event
tabled (C.IneffectiveEvent event) = refuse 11 event 0
tabled (C.NotExcitationClosed event state) = refuse 12 event state
tabled (C.BufferTooShort needed) = refuse 13 needed 0
tabled (C.UnknownEvent position) = refuse 14 position 0
tabled (C.BadSheet line) = refuse 15 line 0

-- a step record: from-state, event number, to-state
unfoldable pub recorded : T.Transition → Transition
recorded t = record { source = t.source; event = t.event; target = t.target }
