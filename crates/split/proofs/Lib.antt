-- The laws behind the program.

-- rows of their length
pub mod Lengths
-- words gathered in a row
pub mod Gathering
-- words of a service are answered
pub mod Serving
