-- `Groups`: the places of a machine in groups, each to be one place. `Bars`: which places bar each other. `Numbers`: the rows with the new numbers. `Merges`: the rows of
-- the merged machines.
pub mod Groups
pub mod Bars
pub mod Numbers
pub mod Merges
