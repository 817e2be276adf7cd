-- The laws behind the checks 4 to 7.

-- the first transition that leads from a state by an event
pub mod Leading
-- one transition more: the sets, and 4 and 5
pub mod Adding
-- 4 and 5 over the transitions in order
pub mod Scanning
-- 6
pub mod Unused
-- how many states a search has still to do
pub mod Counting
-- the states to which a set of states leads
pub mod Images
-- the search for the reached states, turn by turn
pub mod Worklist
-- the lowest state that the search leaves out
pub mod Unreached
-- 4 to 7 together
pub mod Verdicts
