-- The laws behind refusals 11 and 12.

-- searches over the states and the events
pub mod Searches
-- an event on one of the machines
pub mod Effective
-- the places as sets, filled state by state
pub mod Filling
-- the states common to pre-places
pub mod Meeting
-- 11 and 12 of any selection of the machines
pub mod Selection
-- what the rows and the sets say is what the model says
pub mod Cover
