-- The laws of crate `quick_words`.

-- bytes that stand in a text, and figures of them
pub mod Standing
-- A to Z as a to z in eight bytes at once
pub mod Folding
-- bytes as a number, and names as two
pub mod Packing
