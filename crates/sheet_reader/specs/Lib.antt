-- `BoardRows`: the names and moves that a board keeps, and what a move of a line makes of them. `Lent`: the rows of the code that hold them. `Storing`, `Lines` and
-- `Sheets`: what reading moves, a line and a sheet leaves there.
pub mod BoardRows
pub mod Lent
pub mod Storing
pub mod Lines
pub mod Sheets
