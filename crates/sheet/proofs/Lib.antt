-- The laws behind the sheet.

-- words in a part of a buffer that is written whole
pub mod Within
-- the parts of a sheet by their length
pub mod Parts
-- the moves on a machine, the lines of the machines, and how long all are
pub mod Moving
pub mod Lining
pub mod Lengths
-- the rows of a text that passed give the model's sheet
pub mod Told
