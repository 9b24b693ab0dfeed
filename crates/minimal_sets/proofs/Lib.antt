pub mod GreedyRuns
pub mod RunLemmas
pub mod Passes
pub mod Searches
