-- `Answers`: what Thin answers in the model's words.
pub mod Answers
