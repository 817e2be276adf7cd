-- `Sets`: what the rows of sets tell of the transitions. `Reaches`: what a search for the reached states answers.
pub mod Sets
pub mod Reaches
