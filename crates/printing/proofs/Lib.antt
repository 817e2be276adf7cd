-- The laws behind what the program prints.

-- what is written at the beginning of the buffer is shown there, as what is printed; how long a numeral is
pub mod Showing
pub mod Lines
pub mod Lengths
-- Check, Merge, Quote and Sheet, Steps, and Name, by their ways out
pub mod Checking
pub mod Steps
pub mod Naming
-- the places of the machines, and the line of a run
pub mod Places
pub mod Runs
-- the machines that are kept, and their line
pub mod Kept
pub mod Thins
