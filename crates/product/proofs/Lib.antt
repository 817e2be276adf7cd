-- The laws behind Run.

-- the row of the machines' places
pub mod Places
-- an event on the machines together: in the model's words, and by the rows of their moves
pub mod Firing
pub mod Moving
-- the machines of a text
pub mod Told
-- events that are not declared
pub mod Unknown
-- the events one after another
pub mod Running
-- the model's words for an answer tell all of it
pub mod Injective
