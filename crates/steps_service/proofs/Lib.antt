-- The laws behind Steps.

-- Steps, by its ways out
pub mod Listing
-- what Steps leaves, from the numbers listed and the records filled
pub mod Records
