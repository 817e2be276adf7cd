-- `Listing`: what Steps answers, and the numbers of the records that it writes.
pub mod Listing
