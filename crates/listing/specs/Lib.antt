-- `Records`: step records, and the rows of numbers that they are filled from.
pub mod Records
