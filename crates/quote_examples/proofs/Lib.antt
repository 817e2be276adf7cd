-- The text with the longest quotation is read as its value.
pub mod Longest
