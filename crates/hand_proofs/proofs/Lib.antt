-- Laws for functions that the borrow checker does not cover and whose MIR is walked by hand. They hold of any function.

-- the entry of a function: its locals, however many
pub mod Entry
-- a local that holds an array, as the row of its elements
pub mod Arrays
-- constants that the kernel does not compare
pub mod Constants
