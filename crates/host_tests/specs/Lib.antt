pub mod Hosts
pub mod Splits
