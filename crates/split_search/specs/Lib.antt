pub mod RowForests
pub mod Paths
pub mod Decisions
