-- The laws of crate `sheet_reader`.

-- a line with one move more; names and moves that a board keeps, with one move more and with the moves of a line
pub mod LineMoves
pub mod BoardRows
pub mod LineRows
-- a move and the moves of a line into the rows, by the ways out of the code
pub mod Adding
pub mod Moving
-- a line, and the whole sheet
pub mod Lining
pub mod Sheeting
