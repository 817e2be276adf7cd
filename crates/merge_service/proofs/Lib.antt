-- The laws behind Merge.

-- Merge, by its ways out
pub mod Handing
