pub mod Lookup
pub mod Base
pub mod Depending
pub mod Locking
pub mod Editing
pub mod Asked
pub mod Verdicts
pub mod Callable
