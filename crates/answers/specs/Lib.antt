-- `Answers`: the answers of calls that lend a list, and the refusals, in the model's words.
pub mod Answers
