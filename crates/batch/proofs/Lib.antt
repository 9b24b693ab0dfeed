pub mod ReplyLemmas
pub mod AnswerMeanings
