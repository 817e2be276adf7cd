-- The laws behind Thin. `SetNumber` is for the crates above too: a number stands for one set of machines.

-- the states common to pre-places on the machines before each machine
pub mod Extending
-- a machine is one of those that are kept
pub mod Adding
-- whether the machines beside one of them cover an event, and every event
pub mod Covered
-- what the rows say of the machines beside one of them is what the model says
pub mod Beside
-- the machines examined from the highest to the lowest
pub mod Examined
-- a set of machines as a number
pub mod SetNumber
