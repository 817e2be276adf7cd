-- `Kept`: the set of kept machines as a number, and how the rows tell whether a machine is redundant.
pub mod Kept
