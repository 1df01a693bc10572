pub mod StandsAs
pub mod Rows
pub mod Checking
pub mod GroupReading
pub mod Reading
pub mod KnowledgeReading
pub mod Answers
pub mod NumberedReading
