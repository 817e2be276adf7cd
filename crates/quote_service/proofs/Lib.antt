-- The laws behind Quote: its ways out.
pub mod Handing
