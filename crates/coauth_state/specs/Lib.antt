pub mod PlannedEffects
pub mod Standings
