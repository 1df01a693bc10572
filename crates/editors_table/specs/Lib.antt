pub mod PlannedEffects
