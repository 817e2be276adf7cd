-- The laws behind what the words of a command line come to.

-- words judged one after another
pub mod Judging
-- what the words come to
pub mod Replying
-- a service is asked for where there is an answer
pub mod Serving
