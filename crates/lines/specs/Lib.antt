-- `Lines`: what the lines answer. `Marking`: what the inner functions promise.
pub mod Lines
pub mod Marking
