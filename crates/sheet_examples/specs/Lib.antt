-- Sheets that are read and run.
pub mod Examples
