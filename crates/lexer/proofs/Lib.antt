-- The laws of crate `lexer`. For the crates above: Answers, Loops, Moves, Telling and Joining.

-- the functions' own: along a text byte by byte, packing, and figures and names from their bytes
pub mod Runs
pub mod Packing
pub mod Words
-- what an answer says of the text
pub mod Answers
-- items one after another, and the readers that go on
pub mod Loops
pub mod Moves
-- the event of a name is told by its length and its two numbers
pub mod Telling
-- readers one after another
pub mod Joining
