pub mod LiveCoauthors
