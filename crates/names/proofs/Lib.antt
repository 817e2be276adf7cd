-- The laws of crate `names`.

-- the rows tell the names that they hold
pub mod HeldNames
-- looking names up
pub mod Lookup
