-- `Lent`: the rows that a caller lends. `Sections`: what the inner functions promise.
pub mod Lent
pub mod Sections
