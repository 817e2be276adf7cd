-- The laws behind the flat answers.

-- no answer looks like another
pub mod Injective
