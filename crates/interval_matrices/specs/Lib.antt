pub mod Intervals
pub mod IntervalRuns
pub mod IntervalLaws
