pub mod Stored
pub mod Ordered
pub mod Kept
