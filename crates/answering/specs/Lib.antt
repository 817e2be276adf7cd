-- `Known`: how many names of a text count.
pub mod Known
-- `LeavesBytes`, `Leaves`: the services that leave their answer in the buffer.
pub mod Left
