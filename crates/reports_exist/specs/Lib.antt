pub mod AnsweredRuns
pub mod DecidedMatrices
pub mod Laws
