-- `Handed`: what the call answers and leaves once the text is past 10.
pub mod Handed
