-- `Shown`: what stands at the beginning of a buffer, and what is left to be printed of an answer; `answered` is passed on.
pub mod Shown
