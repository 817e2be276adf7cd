-- The laws behind the step records.

-- records filled one after another
pub mod Filling
-- transitions written into a row of numbers one after another
pub mod Numbers
