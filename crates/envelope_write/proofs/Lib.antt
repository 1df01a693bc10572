pub mod Escaping
pub mod Values
pub mod Plain
pub mod Elements
pub mod Appending
pub mod Framing
pub mod AnswerForms
pub mod WellFormedAnswers
