mod SplitSums
pub mod SplitLemmas
