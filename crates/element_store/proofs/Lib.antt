pub mod IdOrder
pub mod Ranks
pub mod Joins
pub mod Serials
pub mod Weighing
