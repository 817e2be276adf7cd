-- `Replies`: what the words of the program come to, and which is wrong. `Examples`: that computed.
pub mod Replies
pub mod Examples
