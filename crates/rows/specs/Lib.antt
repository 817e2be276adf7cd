-- `Rows`: what stands where in a row. `Tables`: the counts and rows that hold a text's value. `Told`: what they tell of it. `Bounded`: their bounds. `Sizes`:
-- their sizes. `Names`: the names of the events, by their places in the text.
pub mod Rows
pub mod Tables
pub mod Told
pub mod Bounded
pub mod Sizes
pub mod Names
