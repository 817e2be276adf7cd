-- The loop over step lines.
pub mod StepSection
