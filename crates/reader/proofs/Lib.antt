-- The laws behind the reader's functions. Those of one module only are beside its proofs.

-- rows that are stored into
pub mod Stores
-- the lines read so far, and what each kind of line does to them
pub mod Rest
pub mod Phases
-- the answer
pub mod Answering
