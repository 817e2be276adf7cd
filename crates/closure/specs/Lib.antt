-- `Covers`: the places of all machines as sets, and what the rows say of an event on all machines.
pub mod Covers
