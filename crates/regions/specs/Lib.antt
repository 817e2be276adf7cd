-- `Moves`: what the rows of moves tell. `Indexed`: the transitions of each event. `Crossings`: how transitions lead through a machine, and what the scan
-- for 10 answers. `Columns`: how they lead through all machines at once. `Regions`: what 8 to 10 come to.
pub mod Moves
pub mod Indexed
pub mod Crossings
pub mod Columns
pub mod Regions
