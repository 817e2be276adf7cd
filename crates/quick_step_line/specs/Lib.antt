-- what a step line's words come to: verified, or unknown
pub mod Quick
