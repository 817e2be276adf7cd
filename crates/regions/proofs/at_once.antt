-- That all machines pass.
pub mod AtOnce
