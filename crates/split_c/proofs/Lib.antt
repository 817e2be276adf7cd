-- The laws behind the flat answers.

-- each answer of a service as numbers, by the service's ways out
pub mod Flattening
-- answers with the same numbers are the same
pub mod Injective
