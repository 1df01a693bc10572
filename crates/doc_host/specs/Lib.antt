pub mod Attempts
pub mod Submits
pub mod Seats
pub mod Passes
pub mod Views
pub mod ValidCalls
pub mod Documents
pub mod Callers
