pub mod Forms
pub mod Seeing
pub mod ResponseReading
pub mod ResponseAnswers
