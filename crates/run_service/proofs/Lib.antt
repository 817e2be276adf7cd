-- The laws behind Run.

-- Run, by its ways out
pub mod Running
