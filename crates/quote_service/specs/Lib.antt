-- `Handed`: what is handed over once a text is past 10.
pub mod Handed
