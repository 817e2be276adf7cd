-- what a move's words come to: verified, or unknown
pub mod Quick
