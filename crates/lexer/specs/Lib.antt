-- what the readers of words answer
pub mod Words
