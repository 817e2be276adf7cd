-- The laws behind the answers.

-- a call that lends a list, by whether what it writes fits
pub mod Lending
-- answers that the model takes for the same are the same
pub mod Injective
