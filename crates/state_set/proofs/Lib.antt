-- The laws behind the sets. `Sets` and `Rows` are for the crates above too: the members of the constants, of what is stored, and of a fresh row.

-- the digits of what the operators give
pub mod Digits
-- the members of what the functions make
pub mod Sets
-- rows of sets: what is stored where
pub mod Rows
