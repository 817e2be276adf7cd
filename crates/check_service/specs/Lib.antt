-- `Handed`: what the call answers and leaves once the text has passed.
pub mod Handed
