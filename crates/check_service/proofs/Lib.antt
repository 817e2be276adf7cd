-- The laws behind Check and sheet.

-- Check and sheet, by its ways out
pub mod Checking
