-- Quotations.
pub mod Examples
-- the longest there is
pub mod Longest
