-- The law behind a move read quickly: a move by its words.
pub mod Moves
