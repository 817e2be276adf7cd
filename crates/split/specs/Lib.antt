-- `Gathered`: the words in their row.
pub mod Gathered
