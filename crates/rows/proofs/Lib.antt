-- The laws of rows, for the reader and the checks.

-- values stored one after another
pub mod Rows
-- searches in rising order, and the transitions of rows from the front
pub mod Searches
pub mod Fronts
-- what a verdict says
pub mod Verdicts
-- what the tables tell of a text that passes 1 to 3, and the bounds that it leaves them
pub mod Telling
pub mod Bounds
-- the names of the events
pub mod Names
