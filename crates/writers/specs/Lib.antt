-- `Written`: bytes that are written into a lent buffer.
pub mod Written
