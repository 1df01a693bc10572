pub mod Maximal
pub mod Joined
