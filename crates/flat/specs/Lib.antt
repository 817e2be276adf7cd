-- `Flat`: each answer as numbers.
pub mod Flat
