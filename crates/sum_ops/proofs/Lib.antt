pub mod CoreSums
pub mod FilledRows
pub mod ChildCounts
