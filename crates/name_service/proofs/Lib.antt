-- The laws behind Name.

-- Name, by its ways out
pub mod Parts
-- what Name hands back
pub mod Naming
-- answers that the model takes for the same are the same
pub mod Injective
