-- `Words`: what the words of a command line say. `WordRow`: the words in one row of bytes. `Program`: what the program answers to its words.
-- `Examples`: that computed. `Names`: the names of a text in rows.
pub mod Words
pub mod WordRow
pub mod Program
pub mod Examples
pub mod Names
