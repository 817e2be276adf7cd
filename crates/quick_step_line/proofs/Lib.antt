-- The law behind a step line read quickly: a step line by its words.
pub mod StepLines
