-- The laws behind the program's answers.

-- what is left to be printed, by what the words say
pub mod Saying
-- the names that count, and what they leave open
pub mod Knowing
-- an answer has a byte
pub mod Speaking
