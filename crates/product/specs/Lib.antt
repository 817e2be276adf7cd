-- `Answers`: what Run answers in the model's words. `Stepping`: how the machines stand, step and run, by the rows. `Lanes`: sixteen machine numbers side by side.
pub mod Answers
pub mod Stepping
pub mod Lanes
