pub mod SignSplits
pub mod SplitLaws
