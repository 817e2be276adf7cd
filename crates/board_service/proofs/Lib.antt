-- The laws of crate `board_service`.

-- a name of the list, looked up; on which machines it is
pub mod Looking
pub mod Knowing
-- the list of names, one after another
pub mod Seeking
pub mod Going
-- the calls, by their ways out
pub mod Calling
