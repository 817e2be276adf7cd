-- The laws behind the writers.

-- words written one after another; the digits of a number
pub mod Writing
pub mod Figures
-- the numeral of any number, and the refusal line
pub mod Refusals
