pub mod Judging
pub mod ReplyLaws
pub mod SubLaws
pub mod ResponseLaws
pub mod OneAnswer
pub mod Stands
pub mod AnswerStands
pub mod ResponseStands
