-- The columns: how they are made, what one comparison of all lanes says, the scan for 10 over them, and the moves that they give.
pub mod Columns
pub mod Lanes
pub mod Uneven
pub mod Putting
