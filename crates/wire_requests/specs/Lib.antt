pub mod WalkReading
pub mod RequestReading
pub mod RequestOf
pub mod RequestAnswers
