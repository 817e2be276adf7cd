-- what is verified of a word
pub mod Guessed
