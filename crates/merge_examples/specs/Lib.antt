-- Splits that are merged.
pub mod Examples
