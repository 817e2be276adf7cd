-- `Member`: the states of a set. `Rows`: the sets of a row.
pub mod Member
pub mod Rows
