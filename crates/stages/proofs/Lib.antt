-- The laws behind the stages of a text, for the services too.

-- refusals 4 to 10 in the fixed order
pub mod Order
-- the checks as far as 7, 10 and 12, by the reading of the text and by what the later checks say of its value
pub mod Checking
-- what is known of the text at each stage
pub mod Stages
