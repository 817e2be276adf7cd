-- The laws behind the lines; `Found` is for the crates above. Those of the places of a machine line are in `marks`.

-- the names of an events line, the words of a step line, a machine line
pub mod Events
pub mod Steps
pub mod MachineReader
-- from an answer back to what was read
pub mod Found
