pub mod AnswerLaws
pub mod SearchLaws
