-- The laws behind Thin.

-- Thin, by its ways out
pub mod Thinning
-- answers that the model takes for the same are the same
pub mod Injective
