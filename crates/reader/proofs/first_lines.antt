-- The first two lines: the rows that an events line leaves.
pub mod EventRows
