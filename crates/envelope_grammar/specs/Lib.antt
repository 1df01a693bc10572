pub mod Bytes
pub mod Grammar
pub mod Reading
pub mod Answers
pub mod Kinds
pub mod Front
