-- How a machine's row is filled, state by state, and the reader of its places.
pub mod Marked
pub mod Filling
pub mod PlaceReader
