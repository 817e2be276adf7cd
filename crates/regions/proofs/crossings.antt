-- Crossings: events whose transitions lead alike through a machine of the model, and that the rows' crossings are the machine's.
pub mod Alike
pub mod Crossed
