-- the names that rows hold, and what looking one up answers
pub mod Held
