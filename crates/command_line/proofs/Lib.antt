-- The laws behind the words of a command line.

-- the same bytes, and the service that they say
pub mod Spelling
-- one event but for the case
pub mod Matching
-- numerals and the numbers that they write
pub mod Counting
-- a word that is a name
pub mod WholeNames
-- the event that a word names
pub mod Declaring
-- the number that a word says is small
pub mod Saying
-- words put into a row are read from it
pub mod Rows
-- words in one row of bytes
pub mod Cutting
-- each word ended by byte 0, or by byte 10
pub mod Ending
-- the events that they say, in the same row
pub mod Taking
-- a good sheet is written again
pub mod Restoring
-- an EVENT in any case
pub mod AnyCase
