pub mod Apart
pub mod Placing
pub mod Joins
pub mod OneList
