pub mod wire
pub mod readers
pub mod rules
pub mod laws
