pub mod Xml
pub mod Attributes
pub mod Words
pub mod AnswerText
pub mod WellFormed
